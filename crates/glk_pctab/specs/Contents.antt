-- What a pool has.
use Rattle.std.specs.Prelude.{ℕ, ◌≡◌, ◌-◌, ◌^◌, min, List, length, cond, Some, None}
use Rattle.std.specs.HashMap.{HashMap, get_by}
use Rattle.std.specs.Str.{bytes_eq}
use Rattle.glk_pctab.specs.FirstUse.{is_among, with_each, offset_in, concat_of}
use denote.Ref.{Bor}

-- byte strings, each once, and the mark that ends each
pub record Contents : Type 0 where
  pub mark : List ℕ
  pub elements : List (List ℕ)

-- what it becomes when these byte strings come to it in order
abbrev pub with_all : Contents → List (List ℕ) → Contents
with_all p qs = record { mark = p.mark; elements = with_each p.elements qs }

-- no more than 64 bits hold
abbrev pub clamped : ℕ → ℕ
clamped n = min n (2 ^ 64 - 1)

-- The map has the offset of each byte string, and the size is the length of all with their marks.
pub record Fits {S : Type 0} (mark : List ℕ) (elements : List (List ℕ)) (offsets : HashMap (Bor (List ℕ)) ℕ S) (size : ℕ) : Type 0 where
  pub at : (q : List ℕ) → get_by (λ k. bytes_eq q k.now) offsets ≡ cond (is_among elements q) (Some (clamped (offset_in mark elements q))) None
  pub size_is : size ≡ clamped (length (concat_of mark elements))
