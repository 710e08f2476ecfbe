-- Fields that are tested one after the other.
use Rattle.std.proofs.Common.{◌≡◌, ℕ, ◌+◌, ◌<◌, ◌≤◌, ◌^◌, List, [], ◌∷◌, ◌++◌, length, take, get_or, sym, subst, arith}
use Rattle.std.specs.Prelude.{All}
use Rattle.std.proofs.lemmas.List.{take_more, take_all}
use Rattle.std.proofs.lemmas.List.Elements.{All-push, All-weaker}
use Rattle.std.proofs.lemmas.List.Quantifiers.{all_pairs_push}
use Rattle.glk_reloc.specs.declared.fields.Field.{Field}
use Rattle.glk_reloc.specs.Fields.{AreApart, IsSized, IsWithin, end_of}
use Rattle.glk_reloc.specs.Tested.{ArePatchable}

-- these fields may be written, and none ends after an offset
pub record PatchableUpTo (len : ℕ) (fields : List Field) (end : ℕ) : Type 0 where
  pub sizes : All IsSized fields
  pub apart : AreApart fields
  pub inside : All (IsWithin 0 len) fields
  pub ended : All (λ f. end_of f ≤ end) fields

pub patchable_none : (len : ℕ) → PatchableUpTo len [] 0
patchable_none len = record {
  sizes = λ k d lt. absurd (omega arith);
  apart = λ i j d lt lt'. absurd (omega arith);
  inside = λ k d lt. absurd (omega arith);
  ended = λ k d lt. absurd (omega arith);
}

patchable_push : (len : ℕ) (fields : List Field) (f : Field) (end : ℕ) → PatchableUpTo len fields end → IsSized f → end ≤ f.at → end_of f ≤ len → PatchableUpTo len (fields ++ f ∷ []) (end_of f)
patchable_push len fields f end h sized from to = record {
  sizes = All-push IsSized fields f h.sizes sized;
  apart = all_pairs_push (λ g k. end_of g ≤ k.at) fields f h.apart (λ k d lt. let e = h.ended k d lt in omega arith);
  inside = All-push (IsWithin 0 len) fields f h.inside (omega arith, to);
  ended = All-push (λ g. end_of g ≤ end_of f) fields f (All-weaker (λ g. end_of g ≤ end) (λ g. end_of g ≤ end_of f) (λ g le. omega arith) fields h.ended) (omega arith);
}

pub patchable_more : (len : ℕ) (fields : List Field) (i : ℕ) (d : Field) (end next : ℕ) → i < length fields → PatchableUpTo len (take i fields) end → IsSized (get_or fields i d) → end ≤ (get_or fields i d).at → end_of (get_or fields i d) ≤ len → next ≡ end_of (get_or fields i d) → PatchableUpTo len (take (i + 1) fields) next
patchable_more len fields i d end next lt h sized from to is =
    let P : List Field → Type 0 = λ l. PatchableUpTo len l next in
    let Q : ℕ → Type 0 = λ n. PatchableUpTo len (take i fields ++ get_or fields i d ∷ []) n in
    subst P (sym (take_more fields i d lt)) (subst Q (sym is) (patchable_push len (take i fields) (get_or fields i d) end h sized from to))

pub patchable_all : (len : ℕ) (fields : List Field) (i end : ℕ) → length fields ≤ i → PatchableUpTo len (take i fields) end → length fields < 2 ^ 32 → ArePatchable fields len
patchable_all len fields i end le h few =
    let P : List Field → Type 0 = λ l. PatchableUpTo len l end in
    let all : PatchableUpTo len fields end = subst P (take_all i fields le) h in
    record { few = few; sizes = all.sizes; apart = all.apart; inside = all.inside }
