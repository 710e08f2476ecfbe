-- The code's types as what contracts speak of.
use Rattle.std.specs.Prelude.{ℕ, ◌≡◌, List, map, length, cond, Some, None}
use Rattle.std.specs.HashMap.{HashMap, get_by}
use Rattle.std.specs.Str.{bytes_eq}
use Rattle.glk_objdesc.specs.FirstUse.{is_among, offset_in, concat_of}
use Rattle.glk_objdesc.specs.Canonical.{clamped}
use denote.Ref.{Bor}

-- borrowed strings
abbrev pub texts_of : List (Bor (List ℕ)) → List (List ℕ)
texts_of bs = map (λ (b : Bor (List ℕ)). b.now) bs

-- The map has the offset of each string, and the size is the length of the concatenation.
pub record Fits {S : Type 0} (strings : List (List ℕ)) (offsets : HashMap (Bor (List ℕ)) ℕ S) (size : ℕ) : Type 0 where
  pub at : (q : List ℕ) → get_by (λ k. bytes_eq q k.now) offsets ≡ cond (is_among strings q) (Some (clamped (offset_in strings q))) None
  pub size_is : size ≡ clamped (length (concat_of strings))
