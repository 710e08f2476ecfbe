-- The least offset of a fault, over records and over blocks.
use Rattle.std.proofs.Common.{◌≡◌, ◌+◌, ◌<◌, ◌≤◌, inl, inr, ℕ, List, arith, subst, sym, refl}
use Rattle.std.proofs.lemmas.Bool.{cases_lt}
use Rattle.glk_base.specs.Least.{IsLeast, BadRecord, InSomeGroup}
use Rattle.glk_obj.specs.Blocks.{offset_of, end}
use Rattle.glk_obj.specs.Layout.{HasLayout}
use Rattle.glk_obj.proofs.BlockOrder.{offset_mono}

-- Records before this one are fine, this one is bad: its offset is the least.
pub first_record : (n : ℕ) (offset : ℕ → ℕ) (Bad : ℕ → Type 0) (i : ℕ) → ((j k : ℕ) → j ≤ k → offset j ≤ offset k) → i < n → Bad i → ((k : ℕ) → k < i → Bad k → ⊥) → IsLeast (BadRecord n offset Bad) (offset i)
first_record n offset Bad i rising inside bad fine = record {
  holds = record { index = i; inside = inside; at = refl; bad = bad };
  least = λ k fault. elim (cases_lt fault.index i) [
    | inl below ↦ absurd (fine fault.index below fault.bad)
    | inr above ↦ let e : offset i ≤ offset fault.index = rising i fault.index above in omega (arith, fault.at)
  ];
}

-- No block below t has a fault.
pub record NoneBelow (In : ℕ → Type 0) (Fault : ℕ → ℕ → Type 0) (t : ℕ) : Type 0 where
  pub none : (j offset : ℕ) → j < t → In j → Fault j offset → ⊥

-- The faults of a block lie in it.
pub record LiesWithin (b : List ℕ) (In : ℕ → Type 0) (Fault : ℕ → ℕ → Type 0) : Type 0 where
  pub block : (t : ℕ) → In t → t < end
  pub from : (t offset : ℕ) → In t → Fault t offset → offset_of b t ≤ offset
  pub to : (t offset : ℕ) → In t → Fault t offset → offset < offset_of b (t + 1)

pub none_more : (In : ℕ → Type 0) (Fault : ℕ → ℕ → Type 0) (t : ℕ) → NoneBelow In Fault t → ((offset : ℕ) → In t → Fault t offset → ⊥) → NoneBelow In Fault (t + 1)
none_more In Fault t before here = record {
  none = λ j offset below among fault. elim (cases_lt j t) [
    | inl less ↦ before.none j offset less among fault
    | inr more ↦
        let e : j ≡ t = omega arith in
        let P : ℕ → Type 0 = λ s. In s → Fault s offset → ⊥ in subst P (sym e) (here offset) among fault
  ];
}

-- The first fault of the first block that has one is the least of all.
pub first_block : (b : List ℕ) (In : ℕ → Type 0) (Fault : ℕ → ℕ → Type 0) (t offset : ℕ) → HasLayout b → LiesWithin b In Fault → In t → NoneBelow In Fault t → IsLeast (Fault t) offset → IsLeast (InSomeGroup In Fault) offset
first_block b In Fault t offset layout lies among before here = record {
  holds = record { group = t; among = among; fault = here.holds };
  least = λ k fault. elim (cases_lt fault.group t) [
    | inl less ↦ absurd (before.none fault.group k less fault.among fault.fault)
    | inr more ↦ elim (cases_lt t fault.group) [
      | inl later ↦
          let e : offset < offset_of b (t + 1) = lies.to t offset among here.holds in
          let f : offset_of b (t + 1) ≤ offset_of b fault.group = offset_mono b (t + 1) fault.group layout (omega arith) (omega (arith, lies.block fault.group fault.among)) in
          let g : offset_of b fault.group ≤ k = lies.from fault.group k fault.among fault.fault in
          omega arith
      | inr same ↦
          let e : fault.group ≡ t = omega arith in
          let P : ℕ → Type 0 = λ s. Fault s k in here.least k (subst P e fault.fault)
    ]
  ];
}

-- no block has a fault
pub none_at_all : (In : ℕ → Type 0) (Fault : ℕ → ℕ → Type 0) (t : ℕ) → NoneBelow In Fault t → ((j : ℕ) → In j → j < t) → (offset : ℕ) → InSomeGroup In Fault offset → ⊥
none_at_all In Fault t before all offset fault = before.none fault.group offset (all fault.group fault.among) fault.among fault.fault

-- The same, where what holds the faults is n ranges that rise: range t is from lo t to below lo (t + 1).
pub record Ranges (n : ℕ) (lo : ℕ → ℕ) (Fault : ℕ → ℕ → Type 0) : Type 0 where
  pub rise : (j k : ℕ) → j ≤ k → k ≤ n → lo j ≤ lo k
  pub from : (t offset : ℕ) → t < n → Fault t offset → lo t ≤ offset
  pub to : (t offset : ℕ) → t < n → Fault t offset → offset < lo (t + 1)

pub first_range : (n : ℕ) (lo : ℕ → ℕ) (Fault : ℕ → ℕ → Type 0) (t offset : ℕ) → Ranges n lo Fault → t < n → NoneBelow (λ i. i < n) Fault t → IsLeast (Fault t) offset → IsLeast (InSomeGroup (λ i. i < n) Fault) offset
first_range n lo Fault t offset ranges among before here = record {
  holds = record { group = t; among = among; fault = here.holds };
  least = λ k fault. elim (cases_lt fault.group t) [
    | inl less ↦ absurd (before.none fault.group k less fault.among fault.fault)
    | inr more ↦ elim (cases_lt t fault.group) [
      | inl later ↦
          let e : offset < lo (t + 1) = ranges.to t offset among here.holds in
          let f : lo (t + 1) ≤ lo fault.group = ranges.rise (t + 1) fault.group (omega arith) (omega (arith, fault.among)) in
          let g : lo fault.group ≤ k = ranges.from fault.group k fault.among fault.fault in
          omega arith
      | inr same ↦
          let e : fault.group ≡ t = omega arith in
          let P : ℕ → Type 0 = λ s. Fault s k in here.least k (subst P e fault.fault)
    ]
  ];
}
