pub mod KnotRows
