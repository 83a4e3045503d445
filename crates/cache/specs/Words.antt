-- What a word is written as. Definitions only.
use Rattle.std.specs.Prelude.{ℕ, List, codes}
use Rattle.cache.specs.declared.Word.{Word}
use Rattle.cache.specs.declared.Word.TheVariants.{Unused, Kept, Built}

abbrev pub word_text : Word → List ℕ
word_text Unused = codes "unused"
word_text Kept = codes "kept"
word_text Built = codes "built"
