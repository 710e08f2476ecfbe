-- The indices of relocations that are kept, key after key.
use Rattle.std.proofs.Common.{◌≡◌, ◌≢◌, ℕ, ◌+◌, ◌<◌, ◌≤◌, Bool, true, false, cond, List, [], Option, Some, None, inl, inr, refl, sym, ◌∙◌, subst, nat_eq, arith}
use Rattle.std.specs.Prelude.{is_some, not}
use Rattle.std.specs.HashMap.{HashMap, get}
use Rattle.std.proofs.lemmas.Bool.{cases_lt, cases_Bool}
use Rattle.std.proofs.lemmas.Bool.Decides.{nat_tests}
use Rattle.std.proofs.lemmas.Option.{same_Some}
use Rattle.glk_keys.specs.Programs.{Program}
use Rattle.glk_keys.specs.Rows.{row_count}
use Rattle.glk_readings.specs.Offsets.{IsIndexOf, IsRising, IsSortedUnless, keeps_nothing}
use Rattle.glk_readings.specs.declared.offsets.OffsetIndex.{OffsetIndex}
use Rattle.glk_readings.specs.declared.symbols.Relocation.{Relocation}
use Rattle.glk_reach.specs.Chosen.{relocations_of}
use Rattle.glk_reach.specs.Indices.{AreIndices, AreAllIndices}
use Rattle.std.specs.declared.vec.Vec.{Vec}

rises_by : {Z : Type 0} (relocs : List Relocation) (sorted : Option (Vec (ℕ × ℕ) Z)) → not (is_some sorted) ≡ true → IsSortedUnless relocs sorted → IsRising relocs
rises_by relocs None e h = h
rises_by relocs (Some pairs) e h = absurd (let bad : false ≡ true = e in cc)

-- an index that keeps nothing is of relocations whose offsets rise
pub rises : (relocs : List Relocation) (index : OffsetIndex) → keeps_nothing index ≡ true → IsIndexOf relocs index → IsRising relocs
rises relocs index = rises_by relocs index.sorted

serves_by : {Z : Type 0} (relocs : List Relocation) (sorted : Option (Vec (ℕ × ℕ) Z)) → not (is_some sorted) ≡ true → IsRising relocs → IsSortedUnless relocs sorted
serves_by relocs None e h = h
serves_by relocs (Some pairs) e h = absurd (let bad : false ≡ true = e in cc)

-- and of all such
pub serves : (relocs : List Relocation) (index : OffsetIndex) → keeps_nothing index ≡ true → IsRising relocs → IsIndexOf relocs index
serves relocs index = serves_by relocs index.sorted

pub none_rise : IsRising []
none_rise i j earlier later before e f = absurd (let bad : None ≡ Some earlier = e in cc)

-- no key has an index, at first
pub no_indices : {S : Type 0} (p : Program) (indices : HashMap ℕ OffsetIndex S) → indices.entries ≡ [] → AreIndices p 0 indices
no_indices p indices empty = record {
  kept = λ k index e. absurd (let bad : None ≡ Some index = rw empty at e in cc);
  others = λ k below e. absurd (let h : k < 0 = below in omega arith);
}

module _ {S : Type 0} (p : Program) (n : ℕ) where
  pub one_rising : (indices : HashMap ℕ OffsetIndex S) → AreIndices p n indices → IsRising (relocations_of p n) → AreIndices p (n + 1) indices
  one_rising indices are here = record {
    kept = are.kept;
    others = λ k below e. elim (cases_lt k n) [
      | inl earlier ↦ are.others k earlier e
      | inr late ↦ let same : n ≡ k = omega arith in let P : ℕ → Type 0 = λ m. IsRising (relocations_of p m) in subst P same here
    ];
  }

  module _ (indices after : HashMap ℕ OffsetIndex S) (index : OffsetIndex) (are : AreIndices p n indices) (here : IsIndexOf (relocations_of p n) index)
      (updates : (k : ℕ) → get nat_eq after k ≡ cond (nat_eq n k) (Some index) (get nat_eq indices k)) where
    kept_at : (k : ℕ) (found : OffsetIndex) (b : Bool) → nat_eq n k ≡ b → cond b (Some index) (get nat_eq indices k) ≡ Some found → IsIndexOf (relocations_of p k) found
    kept_at k found true same e =
        let at : n ≡ k = grind (arith, nat_tests) in
        let P : ℕ → Type 0 = λ m. IsIndexOf (relocations_of p m) index in
        let Q : OffsetIndex → Type 0 = λ x. IsIndexOf (relocations_of p k) x in
        subst Q (same_Some index found e) (subst P at here)
    kept_at k found false other e = are.kept k found e

    others_at : (k : ℕ) (b : Bool) → k < n + 1 → nat_eq n k ≡ b → cond b (Some index) (get nat_eq indices k) ≡ None → IsRising (relocations_of p k)
    others_at k true below same e = absurd (let bad : Some index ≡ None = e in cc)
    others_at k false below other e =
        let apart : n ≢ k = grind (arith, nat_tests) in
        are.others k (omega (arith, apart)) e

    pub one_more : AreIndices p (n + 1) after
    one_more = record {
      kept = λ k found e. kept_at k found (nat_eq n k) refl (sym (updates k) ∙ e);
      others = λ k below e. others_at k (nat_eq n k) below refl (sym (updates k) ∙ e);
    }

-- the index of a key of the program
module _ {S : Type 0} (q p : Program) (indices : HashMap ℕ OffsetIndex S) (rising : OffsetIndex) (k : ℕ) where
  pub found_one : (index : OffsetIndex) → q ≡ p → AreAllIndices q indices rising → get nat_eq indices k ≡ Some index → IsIndexOf (relocations_of p k) index
  found_one index same are e =
      let P : Program → Type 0 = λ x. IsIndexOf (relocations_of x k) index in
      subst P same (are.complete.kept k index e)

  pub serves_all : q ≡ p → AreAllIndices q indices rising → k < row_count p → get nat_eq indices k ≡ None → IsIndexOf (relocations_of p k) rising
  serves_all same are below e =
      let P : Program → Type 0 = λ x. IsIndexOf (relocations_of x k) rising in
      let Q : Program → Type 0 = λ x. k < row_count x in
      subst P same (serves (relocations_of q k) rising are.empty (are.complete.others k (subst Q (sym same) below) e))
