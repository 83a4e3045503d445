-- A loop over n entries of two lists writes those whose flags are set to the front of two parts of a key, over what is read already.
use Prim.Native.Nat.{ℕ, zero, suc, ◌+◌, ◌-◌, ◌<◌, ◌≤◌}
use mathlib.Core.Path.{◌≡◌, refl, sym, ap, ap₂, ◌∙◌}
use mathlib.Core.Bool.{Bool, true, false}
use mathlib.Core.List.{List, [], ◌∷◌, ◌++◌}
use native.Mathlib.Numerals.{add-one}
use native.Mathlib.Omega.{arith}
use lib.ListN.{length, take, drop, set, get_or, replicate, length-append, length-replicate}
use lib.Seq.{paste, paste-zero, length-paste, take-paste, drop-paste, take-append-le, take_all, get_or_at, get_or-set_other}
use borrow.Rule.Slice.PartMut.{put_mid}
use Rattle.std.proofs.lemmas.List.{append_assoc, drop-drop, drop-replicate}
use Rattle.keys.specs.Keys.{filled_to}
use Rattle.keys.specs.Steps.{two_parts}
use Rattle.keys.proofs.KeyParts.{Packed, packed_more}
use Rattle.kept_anchors.specs.Steps.Kept.{picked, picked_parts}
use Rattle.kept_anchors.proofs.Picked.{none_picked}
use Rattle.kept_anchors.proofs.Apart.{paste_apart, two_between, two_behind}

-- ---- one entry more
picked_keep : {A : Type 0} (bs : List Bool) (xs : List A) (i : ℕ) (d : A) → i < length bs → i < length xs → get_or bs i false ≡ true → picked bs (take (suc i) xs) ≡ picked bs (take i xs) ++ (get_or xs i d ∷ [])
picked_keep [] xs i d h k e = absurd (omega arith)
picked_keep (b ∷ bs) [] i d h k e = absurd (omega arith)
picked_keep (b ∷ bs) (x ∷ xs) zero d h k e = rw (e, none_picked bs)
picked_keep {A = A} (true ∷ bs) (x ∷ xs) (suc i) d h k e = ap (λ (l : List A). x ∷ l) (picked_keep bs xs i d (omega arith) (omega arith) e)
picked_keep (false ∷ bs) (x ∷ xs) (suc i) d h k e = picked_keep bs xs i d (omega arith) (omega arith) e

picked_skip : {A : Type 0} (bs : List Bool) (xs : List A) (i : ℕ) → i < length bs → get_or bs i false ≡ false → picked bs (take (suc i) xs) ≡ picked bs (take i xs)
picked_skip [] xs i h e = absurd (omega arith)
picked_skip (b ∷ bs) [] zero h e = refl
picked_skip (b ∷ bs) [] (suc i) h e = refl
picked_skip (b ∷ bs) (x ∷ xs) zero h e = rw (e, none_picked bs)
picked_skip {A = A} (true ∷ bs) (x ∷ xs) (suc i) h e = ap (λ (l : List A). x ∷ l) (picked_skip bs xs i (omega arith) e)
picked_skip (false ∷ bs) (x ∷ xs) (suc i) h e = picked_skip bs xs i (omega arith) e

-- ---- the loop: of the first i entries, k are written
pub record Sifted (a b n : ℕ) (bs : List Bool) (xs ys old key : List ℕ) (k i : ℕ) : Type 0 where
  pub reached : i ≤ n
  pub few : k ≤ i
  pub flags : n ≤ length bs
  pub firsts : length xs ≡ n
  pub seconds : length ys ≡ n
  pub apart : a + n ≤ b
  pub room : b + n ≤ length old
  pub long : length key ≡ length old
  pub written : length (picked bs (take i xs)) ≡ k
  pub beside : length (picked bs (take i ys)) ≡ k
  pub same : key ≡ two_parts a (picked bs (take i xs)) b (picked bs (take i ys)) k old

-- ---- a part written in two steps
put_behind : (d : List ℕ) (at : ℕ) (us zs : List ℕ) (k m : ℕ) → length us ≡ k → length zs ≡ m → at + k + m ≤ length d → put_mid (at + k) m (paste d at us k) zs ≡ paste d at (us ++ zs) (k + m)
put_behind d at us zs k m p q r =
    let before : take (at + k) (paste d at us k) ≡ take at d ++ us =
    take-paste d at us k (omega arith) (omega arith) ∙ ap (λ (l : List ℕ). take at d ++ l) (take_all k us (omega arith)) in
    let after : drop m (drop (at + k) (paste d at us k)) ≡ drop (at + (k + m)) d =
    ap (drop m) (drop-paste d at us k (omega arith) (omega arith))
    ∙ drop-drop m (at + k) d
    ∙ ap (λ (i : ℕ). drop i d) (omega arith) in
    let all : take (k + m) (us ++ zs) ≡ us ++ zs = take_all (k + m) (us ++ zs) (omega (arith, length-append us zs)) in
    rw (before, after, all) (sym (append_assoc (take at d ++ us) zs (drop (at + (k + m)) d)) ∙ ap (λ (l : List ℕ). l ++ drop (at + (k + m)) d) (append_assoc (take at d) us zs))

module _ (a b n : ℕ) (bs : List Bool) (xs ys old : List ℕ) where
  pub sifted_none : n ≤ length bs → length xs ≡ n → length ys ≡ n → a + n ≤ b → b + n ≤ length old → Sifted a b n bs xs ys old old 0 0
  sifted_none f p q h r =
      record {
        reached = omega arith;
        few = omega arith;
        flags = f;
        firsts = p;
        seconds = q;
        apart = h;
        room = r;
        long = refl;
        written = ap length (none_picked bs);
        beside = ap length (none_picked bs);
        same = paste-zero old a (picked bs []) ∙ paste-zero (paste old a (picked bs []) 0) b (picked bs []);
      }

  module _ (key : List ℕ) (k i : ℕ) (w : Sifted a b n bs xs ys old key k i) where
    pub sifted_skip : (key' : List ℕ) (k' : ℕ) → key' ≡ key → k' ≡ k → i < n → get_or bs i false ≡ false → Sifted a b n bs xs ys old key' k' (i + 1)
    sifted_skip key' k' f g h e =
        let p = picked_skip bs xs i (omega (arith, w.flags)) e in
        let q = picked_skip bs ys i (omega (arith, w.flags)) e in
        rw (f, g)
        (record {
          reached = omega arith;
          few = omega (arith, w.few);
          flags = w.flags;
          firsts = w.firsts;
          seconds = w.seconds;
          apart = w.apart;
          room = w.room;
          long = w.long;
          written = rw (add-one, p) w.written;
          beside = rw (add-one, q) w.beside;
          same = rw (add-one, p, q) w.same;
        })

    pub sifted_keep : (j m x y : ℕ) (key' : List ℕ) (k' : ℕ) → key' ≡ set (set key j x) m y → k' ≡ k + 1 → i < n → get_or bs i false ≡ true → j ≡ a + k → m ≡ b + k → x ≡ get_or xs i 0 → y ≡ get_or ys i 0 → Sifted a b n bs xs ys old key' k' (i + 1)
    sifted_keep j m x y key' k' f g h e ej em ex ey =
        let us = picked bs (take i xs) in
        let vs = picked bs (take i ys) in
        let p : picked bs (take (suc i) xs) ≡ us ++ (x ∷ []) = rw ex (picked_keep bs xs i 0 (omega (arith, w.flags)) (omega (arith, w.firsts)) e) in
        let q : picked bs (take (suc i) ys) ≡ vs ++ (y ∷ []) = rw ey (picked_keep bs ys i 0 (omega (arith, w.flags)) (omega (arith, w.seconds)) e) in
        let lu : length (us ++ (x ∷ [])) ≡ k + 1 = length-append us (x ∷ []) ∙ omega (arith, w.written) in
        let lv : length (vs ++ (y ∷ [])) ≡ k + 1 = length-append vs (y ∷ []) ∙ omega (arith, w.beside) in
        let before : Packed a (us ++ (x ∷ [])) b (vs ++ (y ∷ [])) (k + 1) old key k =
        record {
          reached = omega arith;
          firsts = omega (arith, lu);
          seconds = omega (arith, lv);
          apart = omega (arith, w.apart, w.few);
          room = omega (arith, w.room, w.few);
          long = w.long;
          same = rw (take-append-le k us (x ∷ []) (omega (arith, w.written)), take-append-le k vs (y ∷ []) (omega (arith, w.beside))) w.same;
        } in
        let after = packed_more a (us ++ (x ∷ [])) b (vs ++ (y ∷ [])) (k + 1) old key k j m x y 0 0 before (omega arith) ej em (sym (get_or_at us x [] 0 k w.written)) (sym (get_or_at vs y [] 0 k w.beside)) in
        rw (f, g)
        (record {
          reached = omega arith;
          few = omega (arith, w.few);
          flags = w.flags;
          firsts = w.firsts;
          seconds = w.seconds;
          apart = w.apart;
          room = w.room;
          long = after.long;
          written = rw (add-one i, p) lu;
          beside = rw (add-one i, q) lv;
          same = rw (add-one i, p, q) after.same;
        })

    -- what is left to be read is as it was
    pub sifted_first : i < n → get_or key (a + i) 0 ≡ get_or old (a + i) 0
    sifted_first h =
        ap (λ (t : List ℕ). get_or t (a + i) 0) w.same
        ∙ two_between a b k (picked bs (take i xs)) (picked bs (take i ys)) old (omega (arith, w.written)) (omega (arith, w.beside)) (omega (arith, w.few, w.apart)) (omega (arith, w.few, w.room)) (a + i) (omega (arith, w.few)) (omega (arith, w.apart))

    pub sifted_second : (j x : ℕ) → j < b → i < n → get_or (set key j x) (b + i) 0 ≡ get_or old (b + i) 0
    sifted_second j x f h =
        get_or-set_other key j (b + i) x 0 (λ e. omega (arith, e))
        ∙ ap (λ (t : List ℕ). get_or t (b + i) 0) w.same
        ∙ two_behind a b k (picked bs (take i xs)) (picked bs (take i ys)) old (omega (arith, w.written)) (omega (arith, w.beside)) (omega (arith, w.few, w.apart)) (omega (arith, w.few, w.room)) (b + i) (omega (arith, w.few))

    module _ (h : n ≤ i) where
      firsts_all : take i xs ≡ xs
      firsts_all = take_all i xs (omega (arith, w.firsts))

      seconds_all : take i ys ≡ ys
      seconds_all = take_all i ys (omega (arith, w.seconds))

      pub sifted_count : k ≡ length (picked bs xs)
      sifted_count = sym w.written ∙ ap (λ (l : List ℕ). length (picked bs l)) firsts_all

      -- zeros behind both parts
      pub zeros_behind : (zs ws : List ℕ) → zs ≡ replicate (n - k) 0 → ws ≡ replicate (n - k) 0 → put_mid (b + k) (b + n - (b + k)) (put_mid (a + k) (a + n - (a + k)) key zs) ws ≡ picked_parts a b n bs xs ys old
      zeros_behind zs ws p q =
          let us = picked bs xs in
          let vs = picked bs ys in
          let m = n - k in
          let lu : length us ≡ k = sym sifted_count in
          let lv : length vs ≡ k = ap (λ (l : List ℕ). length (picked bs l)) (sym seconds_all) ∙ w.beside in
          let lz : length zs ≡ m = ap length p ∙ length-replicate m 0 in
          let lw : length ws ≡ m = ap length q ∙ length-replicate m 0 in
          let now : key ≡ two_parts a us b vs k old = rw (firsts_all, seconds_all) at w.same in
          let em : k + m ≡ n = omega (arith, w.few, w.reached) in
          let la : length (us ++ zs) ≡ n = length-append us zs ∙ omega (arith, lu, lz, em) in
          let lo : length (paste old b vs k) ≡ length old = length-paste old b vs k (omega (arith, w.room, em)) (omega (arith, lv)) in
          let ln : length (paste old a (us ++ zs) n) ≡ length old = length-paste old a (us ++ zs) n (omega (arith, w.apart, w.room)) (omega (arith, la)) in
          let ez : us ++ zs ≡ filled_to n us = ap (λ (l : List ℕ). us ++ l) (p ∙ ap (λ (j : ℕ). replicate (n - j) 0) (sym lu) ∙ sym (drop-replicate (length us) n 0)) in
          let ew : vs ++ ws ≡ filled_to n vs = ap (λ (l : List ℕ). vs ++ l) (q ∙ ap (λ (j : ℕ). replicate (n - j) 0) (sym lv) ∙ sym (drop-replicate (length vs) n 0)) in
          let turned : key ≡ paste (paste old b vs k) a us k = now ∙ paste_apart old a us b vs k k (omega (arith, w.apart, em)) (omega (arith, w.room, em)) (omega (arith, lu)) (omega (arith, lv)) in
          let fa : a + n - (a + k) ≡ m = omega arith in
          let fb : b + n - (b + k) ≡ m = omega arith in
          let first : put_mid (a + k) (a + n - (a + k)) key zs ≡ paste (paste old a (us ++ zs) n) b vs k =
          ap₂ (λ (i : ℕ) (l : List ℕ). put_mid (a + k) i l zs) fa turned
          ∙ put_behind (paste old b vs k) a us zs k m lu lz (omega (arith, lo, em, w.apart, w.room))
          ∙ ap (paste (paste old b vs k) a (us ++ zs)) em
          ∙ sym (paste_apart old a (us ++ zs) b vs k n w.apart (omega (arith, w.room, em)) (omega (arith, la)) (omega (arith, lv))) in
          ap₂ (λ (i : ℕ) (l : List ℕ). put_mid (b + k) i l ws) fb first
          ∙ put_behind (paste old a (us ++ zs) n) b vs ws k m lv lw (omega (arith, ln, em, w.room))
          ∙ ap (paste (paste old a (us ++ zs) n) b (vs ++ ws)) em
          ∙ ap₂ (λ (l r : List ℕ). paste (paste old a l n) b r n) ez ew
