-- The faults of readings are the broken rules of least number.
use Rattle.std.proofs.Common.{◌≡◌, ◌+◌, ◌<◌, ◌≤◌, ℕ, ℤ, List, Option, Some, None, length, arith, refl, true, false, Bool, ◌⊎◌, inl, inr, MatchBool, zero, suc}
use Rattle.std.specs.Prelude.{◌==◌, nat_le, ◌&&◌, MatchOption}
use Rattle.std.specs.Option.{option_map, option_map_or}
use Rattle.std.proofs.lemmas.Bool.Decides.{nat_tests}
use Rattle.glk_base.proofs.VarintLemmas.{bool_cases}
use Rattle.glk_types.specs.Abi.{abi_method, abi_imethod, abi_kind}
use Rattle.glk_types.specs.Targets.{offset_of}
use Rattle.glk_types.specs.Types.{has_header, kind_of, can_have_methods, method_count, methods_offset, entry_offset, has_uncommon_inside, has_methods_inside}
use Rattle.glk_types.specs.Faults.{header_fault, interface_fault, uncommon_fault, inside_fault, is_imethod_inside, imethod_inside_fault, other_from, offsets_fault, methods_fault, imethod_fault}
use Rattle.glk_types.specs.Rules.{IsAnswerBy, IsFault, HasHeader, IsInterface, HasMethods, HasUncommonInside, HasMethodsInside, HasImethodInside, HasMethodoffs, IsFirstOther, IsFirstLacking, HeaderAsks, HeaderReports, MethodsAsk, MethodsReport, ImethodAsks}
use Rattle.glk_types.specs.Laws.{HeaderFaultsAreOfRules, MethodsFaultsAreOfRules, ImethodFaultsAreOfRules}
use Rattle.glk_types.proofs.MethodLemmas.{as_many, all_own, some_other}

-- one of two, by a test
pick : {P Q : Type 0} (t : Bool) → (t ≡ true → P) → (t ≡ false → Q) → MatchBool t P Q
pick true first second = first refl
pick false first second = second refl

-- a number below n is not n
below : (k n : ℕ) → k < n → (k == n) ≡ true → ⊥
below k n small same = grind (arith, nat_tests, same)

headed : (b : List ℕ) → has_header b ≡ true → HasHeader b
headed b holds = grind (arith, nat_tests, holds)

not_headed : (b : List ℕ) → has_header b ≡ false → HasHeader b → ⊥
not_headed b fails header = grind (arith, nat_tests, fails, header)

header_broken : (b : List ℕ) → has_header b ≡ false → IsFault (HeaderAsks b) (HeaderReports b) 1 (length b)
header_broken b fails = record {
  broken = not_headed b fails;
  before = λ k small. pick (k == 1) (λ e. absurd (below k 1 small e)) (λ e. tt);
  reported = refl;
}

pub header_law : HeaderFaultsAreOfRules
unfolding header_fault
header_law b = elim (bool_cases (has_header b)) [
  | inl holds ↦ rw holds (λ rule. pick (rule == 1) (λ e. headed b holds) (λ e. tt))
  | inr fails ↦ rw fails (header_broken b fails)
]

-- ---- methods
methods_asked : (b offsets : List ℕ) (k : ℕ) → ((k == 1) ≡ true → HasHeader b) → ((k == 3) ≡ true → HasMethods b)
    → ((k == 4) ≡ true → HasUncommonInside b × HasMethodsInside b) → ((k == 5) ≡ true → HasMethodoffs b offsets) → MethodsAsk b offsets k
methods_asked b offsets k one three four five =
    pick (k == 1) one (λ e. pick (k == 3) three (λ f. pick (k == 4) four (λ g. pick (k == 5) five (λ h. tt))))

uncommon : (b : List ℕ) → can_have_methods b ≡ true → HasMethods b
uncommon b holds = (grind (arith, nat_tests, holds), grind (arith, nat_tests, holds))

not_uncommon : (b : List ℕ) → can_have_methods b ≡ false → HasMethods b → ⊥
not_uncommon b fails methods =
    let other = methods.0 in
    let bit = methods.1 in
    grind (arith, nat_tests, fails, other, bit)

inside : (b : List ℕ) → (has_uncommon_inside b && has_methods_inside b) ≡ true → HasUncommonInside b × HasMethodsInside b
inside b holds = (grind (arith, nat_tests, holds), λ k small. grind (arith, nat_tests, holds, small))

last_inside : (start count n : ℕ) → ((k : ℕ) → k < count → entry_offset start k + abi_method.bytes ≤ n) → count ≡ 0 ⊎ (entry_offset start count ≤ n)
last_inside start zero n all = inl refl
last_inside start (suc count) n all = inr (omega (arith, all count (omega arith)))

not_inside : (b : List ℕ) → (has_uncommon_inside b && has_methods_inside b) ≡ false → HasUncommonInside b × HasMethodsInside b → ⊥
not_inside b fails both =
    let part = both.0 in
    elim (last_inside (methods_offset b) (method_count b) (length b) both.1) [
      | inl none ↦ grind (arith, nat_tests, fails, part, none)
      | inr last ↦ grind (arith, nat_tests, fails, part, last)
    ]

own_offsets : (b offsets : List ℕ) → other_from (methods_offset b) (method_count b) 0 offsets ≡ None → HasMethodoffs b offsets
own_offsets b offsets is =
    let many = as_many (methods_offset b) (method_count b) 0 offsets (omega arith) is in (
      omega (arith, many),
      λ j small.
          let own = all_own (methods_offset b) (method_count b) 0 offsets is j small in
          let e : 0 + j ≡ j = omega arith in
          (omega (arith, own.0), rw e at own.1),
    )

other_reported : (b offsets : List ℕ) (offset : ℕ) → other_from (methods_offset b) (method_count b) 0 offsets ≡ Some offset
    → IsFirstOther b offsets offset ⊎ IsFirstLacking b offsets offset
other_reported b offsets offset is =
    let zero_plus : (j : ℕ) → 0 + j ≡ j = λ j. omega arith in
    elim (some_other (methods_offset b) (method_count b) 0 offsets offset is) [
      | inl found ↦ inl (record {
        index = found.index;
        inside = found.inside;
        before = λ j small. let own = found.before j small in (omega (arith, own.0), rw (zero_plus j) at own.1);
        other = λ own. found.other (omega (arith, own.0), rw (zero_plus found.index) own.1);
        at = found.at;
      })
      | inr lack ↦ inr (record {
        all = λ j small. let own = lack.all j small in (omega (arith, own.0), rw (zero_plus j) at own.1);
        lacks = omega (arith, lack.lacks);
        at = rw (zero_plus (length offsets)) at lack.at;
      })
    ]

other_broken : (b offsets : List ℕ) (offset : ℕ) → IsFirstOther b offsets offset ⊎ IsFirstLacking b offsets offset → HasMethodoffs b offsets → ⊥
other_broken b offsets offset (inl found) all = found.other (all.1 found.index found.inside)
other_broken b offsets offset (inr lack) all = absurd (omega (arith, lack.lacks, all.0))

methods_law_five : (b offsets : List ℕ) → HasHeader b → HasMethods b → HasUncommonInside b × HasMethodsInside b
    → (r : Option ℕ) → other_from (methods_offset b) (method_count b) 0 offsets ≡ r
    → IsAnswerBy (MethodsAsk b offsets) (MethodsReport b offsets) (option_map (λ offset. (5, offset)) r)
methods_law_five b offsets header methods inside None is =
    λ rule. methods_asked b offsets rule (λ e. header) (λ e. methods) (λ e. inside) (λ e. own_offsets b offsets is)
methods_law_five b offsets header methods inside (Some offset) is = record {
  broken = other_broken b offsets offset (other_reported b offsets offset is);
  before = λ k small. methods_asked b offsets k (λ e. header) (λ e. methods) (λ e. inside) (λ e. absurd (below k 5 small e));
  reported = other_reported b offsets offset is;
}

pub methods_law : MethodsFaultsAreOfRules
unfolding methods_fault header_fault uncommon_fault inside_fault offsets_fault
methods_law b offsets = elim (bool_cases (has_header b)) [
  | inr fails ↦ rw fails (record {
    broken = not_headed b fails;
    before = λ k small. methods_asked b offsets k (λ e. absurd (below k 1 small e)) (λ e. absurd (grind (arith, nat_tests, e, small)))
        (λ e. absurd (grind (arith, nat_tests, e, small))) (λ e. absurd (grind (arith, nat_tests, e, small)));
    reported = refl;
  })
  | inl one ↦ elim (bool_cases (can_have_methods b)) [
    | inr fails ↦ rw (one, fails) (record {
      broken = not_uncommon b fails;
      before = λ k small. methods_asked b offsets k (λ e. headed b one) (λ e. absurd (below k 3 small e))
          (λ e. absurd (grind (arith, nat_tests, e, small))) (λ e. absurd (grind (arith, nat_tests, e, small)));
      reported = refl;
    })
    | inl three ↦ elim (bool_cases (has_uncommon_inside b && has_methods_inside b)) [
      | inr fails ↦ rw (one, three, fails) (record {
        broken = not_inside b fails;
        before = λ k small. methods_asked b offsets k (λ e. headed b one) (λ e. uncommon b three) (λ e. absurd (below k 4 small e))
            (λ e. absurd (grind (arith, nat_tests, e, small)));
        reported = refl;
      })
      | inl four ↦ rw (one, three, four) (methods_law_five b offsets (headed b one) (uncommon b three) (inside b four) _ refl)
    ]
  ]
]

-- ---- the method of an interface
imethod_asked : (b : List ℕ) (addend : ℤ) (k : ℕ) → ((k == 1) ≡ true → HasHeader b) → ((k == 2) ≡ true → IsInterface b)
    → ((k == 4) ≡ true → HasImethodInside b addend) → ImethodAsks b addend k
imethod_asked b addend k one two four = pick (k == 1) one (λ e. pick (k == 2) two (λ f. pick (k == 4) four (λ g. tt)))

interface : (b : List ℕ) → (kind_of b == abi_kind.interface) ≡ true → IsInterface b
interface b holds = grind (arith, nat_tests, holds)

not_interface : (b : List ℕ) → (kind_of b == abi_kind.interface) ≡ false → IsInterface b → ⊥
not_interface b fails is = grind (arith, nat_tests, fails, is)

at_inside : (n : ℕ) (r : Option ℕ) → option_map_or (λ at. nat_le (at + abi_imethod.bytes) n) r false ≡ true → MatchOption r ⊥ (λ at. at + abi_imethod.bytes ≤ n)
at_inside n None holds = absurd (let e : false ≡ true = holds in cc)
at_inside n (Some at) holds = grind (arith, nat_tests, holds)

not_at_inside : (n : ℕ) (r : Option ℕ) → option_map_or (λ at. nat_le (at + abi_imethod.bytes) n) r false ≡ false → MatchOption r ⊥ (λ at. at + abi_imethod.bytes ≤ n) → ⊥
not_at_inside n None fails is = is
not_at_inside n (Some at) fails is = grind (arith, nat_tests, fails, is)

pub imethod_law : ImethodFaultsAreOfRules
unfolding imethod_fault header_fault interface_fault imethod_inside_fault
imethod_law b addend = elim (bool_cases (has_header b)) [
  | inr fails ↦ rw fails (record {
    broken = not_headed b fails;
    before = λ k small. imethod_asked b addend k (λ e. absurd (below k 1 small e)) (λ e. absurd (grind (arith, nat_tests, e, small)))
        (λ e. absurd (grind (arith, nat_tests, e, small)));
    reported = refl;
  })
  | inl one ↦ elim (bool_cases (kind_of b == abi_kind.interface)) [
    | inr fails ↦ rw (one, fails) (record {
      broken = not_interface b fails;
      before = λ k small. imethod_asked b addend k (λ e. headed b one) (λ e. absurd (below k 2 small e)) (λ e. absurd (grind (arith, nat_tests, e, small)));
      reported = refl;
    })
    | inl two ↦ elim (bool_cases (is_imethod_inside b addend)) [
      | inr fails ↦ rw (one, two, fails) (record {
        broken = not_at_inside (length b) (offset_of addend) fails;
        before = λ k small. imethod_asked b addend k (λ e. headed b one) (λ e. interface b two) (λ e. absurd (below k 4 small e));
        reported = refl;
      })
      | inl four ↦ rw (one, two, four) (λ rule. imethod_asked b addend rule (λ e. headed b one) (λ e. interface b two) (λ e. at_inside (length b) (offset_of addend) four))
    ]
  ]
]
