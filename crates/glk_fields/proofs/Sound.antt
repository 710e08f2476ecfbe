-- What relocations without a fault are: their fields have a size, and share no byte.
use Rattle.std.proofs.Common.{◌≡◌, ◌∙◌, ℕ, zero, suc, ◌+◌, ◌<◌, ◌≤◌, inl, inr, List, [], ◌∷◌, length, get_or, Bool, true, false, Option, Some, None, cond, refl, ap, sym, subst, arith, true≢false}
use Rattle.std.specs.Prelude.{◌==◌, ◌&&◌, ◌||◌, not, nat_lt, IsSome, if◌then◌else◌, ℤ}
use Rattle.std.specs.List.{find, list_any, range_with_len}
use Rattle.std.specs.Option.{option_map, option_map_or, option_or}
use Rattle.std.proofs.lemmas.Bool.{eqb-true}
use Rattle.std.proofs.lemmas.Bool.Decides.{nat_tests}
use Rattle.std.proofs.lemmas.List.FromFn.{length-range_with_len, get_or-range_with_len}
use Rattle.glk_keys.specs.Programs.{Program}
use Rattle.glk_keys.specs.Relocations.{reloc_kind}
use Rattle.glk_obj.specs.Records.{Reloc, field_start}
use Rattle.glk_obj.specs.declared.kinds.RelocKind.{RelocKind}
use Rattle.glk_obj.specs.declared.kinds.RelocKind.TheVariants.{Addr, Call, PcRel, AddrOff, MethodOff, TlsLe, UseIface, UseIfaceMethod, UseNamedMethod, UseType, InitOrder, CallInd, Keep, Ignore}
use Rattle.glk_reach.specs.Chosen.{key_relocs}
use Rattle.glk_reach.specs.RelocFaults.{reloc_in, has_kind_that, has_no_kind, has_other_size, begins_uneven_run, is_field_in_zeros, is_without_target, is_field, shares_byte, shares_byte_with, shares_byte_with_earlier, first_breaking, reloc_fault}
use Rattle.glk_reach.specs.RelocKinds.{is_field_kind, may_have_size}
use Rattle.glk_reloc.specs.Values.{IsFieldSize}
use Rattle.glk_reloc.specs.References.{kept_value, unkept_value, field_value}
use Rattle.glk_reloc.specs.declared.references.StandIns.{StandIns}
use Rattle.glk_reloc.specs.declared.references.Target.{Target}

-- a kind that writes a value is one that has a field
kept_field : (kind : RelocKind) (t : Target) (a : ℤ) (p n : ℕ) (v : ℤ) → kept_value kind t a p n ≡ Some v → is_field_kind kind ≡ true
unfolding kept_value
kept_field Addr t a p n v e = refl
kept_field Call t a p n v e = refl
kept_field PcRel t a p n v e = refl
kept_field AddrOff t a p n v e = refl
kept_field MethodOff t a p n v e = refl
kept_field TlsLe t a p n v e = refl
kept_field UseIface t a p n v e = absurd (let bad : None ≡ Some v = e in cc)
kept_field UseIfaceMethod t a p n v e = absurd (let bad : None ≡ Some v = e in cc)
kept_field UseNamedMethod t a p n v e = absurd (let bad : None ≡ Some v = e in cc)
kept_field UseType t a p n v e = absurd (let bad : None ≡ Some v = e in cc)
kept_field InitOrder t a p n v e = absurd (let bad : None ≡ Some v = e in cc)
kept_field CallInd t a p n v e = absurd (let bad : None ≡ Some v = e in cc)
kept_field Keep t a p n v e = absurd (let bad : None ≡ Some v = e in cc)
kept_field Ignore t a p n v e = absurd (let bad : None ≡ Some v = e in cc)

unkept_field : (kind : RelocKind) (s : StandIns) (a : ℤ) (p n : ℕ) (v : ℤ) → unkept_value kind s a p n ≡ Some v → is_field_kind kind ≡ true
unfolding unkept_value
unkept_field Addr s a p n v e = refl
unkept_field Call s a p n v e = refl
unkept_field PcRel s a p n v e = refl
unkept_field AddrOff s a p n v e = refl
unkept_field MethodOff s a p n v e = refl
unkept_field TlsLe s a p n v e = refl
unkept_field UseIface s a p n v e = absurd (let bad : None ≡ Some v = e in cc)
unkept_field UseIfaceMethod s a p n v e = absurd (let bad : None ≡ Some v = e in cc)
unkept_field UseNamedMethod s a p n v e = absurd (let bad : None ≡ Some v = e in cc)
unkept_field UseType s a p n v e = absurd (let bad : None ≡ Some v = e in cc)
unkept_field InitOrder s a p n v e = absurd (let bad : None ≡ Some v = e in cc)
unkept_field CallInd s a p n v e = absurd (let bad : None ≡ Some v = e in cc)
unkept_field Keep s a p n v e = absurd (let bad : None ≡ Some v = e in cc)
unkept_field Ignore s a p n v e = absurd (let bad : None ≡ Some v = e in cc)

pub value_field : (kind : RelocKind) (t : Option Target) (s : StandIns) (a : ℤ) (p n : ℕ) (v : ℤ) → field_value kind t s a p n ≡ Some v → is_field_kind kind ≡ true
value_field kind (Some t) s a p n v e = kept_field kind t a p n v e
value_field kind None s a p n v e = unkept_field kind s a p n v e

four_or_eight : (n : ℕ) (a b : Bool) → (n == 4) ≡ a → (n == 8) ≡ b → (a || b) ≡ true → IsFieldSize n
four_or_eight n true b x y e = inl (eqb-true n 4 x)
four_or_eight n false true x y e = inr (eqb-true n 8 y)
four_or_eight n false false x y e = absurd (true≢false (sym e))

four : (n : ℕ) → (n == 4) ≡ true → IsFieldSize n
four n e = inl (eqb-true n 4 e)

pub field_sized : (kind : RelocKind) (n : ℕ) → is_field_kind kind ≡ true → may_have_size kind n ≡ true → IsFieldSize n
field_sized Addr n f e = four_or_eight n (n == 4) (n == 8) refl refl e
field_sized Call n f e = four n e
field_sized PcRel n f e = four n e
field_sized AddrOff n f e = four n e
field_sized MethodOff n f e = four n e
field_sized TlsLe n f e = four n e
field_sized UseIface n f e = absurd (true≢false (sym f))
field_sized UseIfaceMethod n f e = absurd (true≢false (sym f))
field_sized UseNamedMethod n f e = absurd (true≢false (sym f))
field_sized UseType n f e = absurd (true≢false (sym f))
field_sized InitOrder n f e = absurd (true≢false (sym f))
field_sized CallInd n f e = absurd (true≢false (sym f))
field_sized Keep n f e = absurd (true≢false (sym f))
field_sized Ignore n f e = absurd (true≢false (sym f))

-- Rules that no relocation breaks.

or_none : {A : Type 0} (a b : Option A) → option_or a b ≡ None → (a ≡ None) × (b ≡ None)
or_none (Some x) b e = absurd (let bad : Some x ≡ None = e in cc)
or_none None b e = (refl, e)

found_next : (test : ℕ → Bool) (a n : ℕ) → test a ≡ false → ((k : ℕ) → k < n → test (a + 1 + k) ≡ false) → (i : ℕ) → i < suc n → test (a + i) ≡ false
found_next test a n first rest zero lt = let same : a ≡ a + zero = omega arith in let P : ℕ → Type 0 = λ m. test m ≡ false in subst P same first
found_next test a n first rest (suc k) lt =
    let P : ℕ → Type 0 = λ m. test m ≡ false in
    let same : a + 1 + k ≡ a + suc k = omega arith in
    subst P same (rest k (omega arith))

found_step : (test : ℕ → Bool) (rule a n : ℕ) (b : Bool) → test a ≡ b
    → (option_map {U = ℕ × ℕ} (λ (j : ℕ). (rule, j)) (find test (range_with_len (a + 1) n)) ≡ None → (k : ℕ) → k < n → test (a + 1 + k) ≡ false)
    → option_map {U = ℕ × ℕ} (λ (j : ℕ). (rule, j)) (cond b (Some a) (find test (range_with_len (a + 1) n))) ≡ None → (i : ℕ) → i < suc n → test (a + i) ≡ false
found_step test rule a n true t rest e i lt = absurd (let bad : Some (rule, a) ≡ None = e in cc)
found_step test rule a n false t rest e i lt = found_next test a n t (rest e) i lt

found_none : (test : ℕ → Bool) (rule a n i : ℕ) → option_map {U = ℕ × ℕ} (λ (j : ℕ). (rule, j)) (find test (range_with_len a n)) ≡ None → i < n → test (a + i) ≡ false
found_none test rule a zero i e lt = absurd (omega (arith, lt))
found_none test rule a (suc n) i e lt = found_step test rule a n (test a) refl (λ none k h. found_none test rule (a + 1) n k none h) e i lt

pub unbroken : (p : Program) (k rule : ℕ) (broken : ℕ → Bool) (i : ℕ) → first_breaking p k rule broken ≡ None → i < length (key_relocs p k) → broken i ≡ false
unbroken p k rule broken i e lt =
    let P : ℕ → Type 0 = λ m. broken m ≡ false in
    let same : 0 + i ≡ i = omega arith in
    subst P same (found_none broken rule 0 (length (key_relocs p k)) i e lt)

-- no two fields of a symbol share a byte, and each has one of the sizes of its kind
pub record AreSound (p : Program) (k : ℕ) : Type 0 where
  pub sizes : (i : ℕ) → i < length (key_relocs p k) → has_other_size p k i ≡ false
  pub apart : (i : ℕ) → i < length (key_relocs p k) → shares_byte_with_earlier p k i ≡ false

pub are_sound : (p : Program) (k : ℕ) → reloc_fault p k ≡ None → AreSound p k
unfolding reloc_fault
are_sound p k e =
    let sixth : Option (ℕ × ℕ) = first_breaking p k 6 (shares_byte_with_earlier p k) in
    let fifth : Option (ℕ × ℕ) = option_or (first_breaking p k 5 (is_without_target p k)) sixth in
    let fourth : Option (ℕ × ℕ) = option_or (first_breaking p k 4 (is_field_in_zeros p k)) fifth in
    let third : Option (ℕ × ℕ) = option_or (first_breaking p k 3 (begins_uneven_run p k)) fourth in
    let second : Option (ℕ × ℕ) = option_or (first_breaking p k 2 (has_other_size p k)) third in
    let one = or_none (first_breaking p k 1 (has_no_kind p k)) second e in
    let two = or_none (first_breaking p k 2 (has_other_size p k)) third one.1 in
    let three = or_none (first_breaking p k 3 (begins_uneven_run p k)) fourth two.1 in
    let four = or_none (first_breaking p k 4 (is_field_in_zeros p k)) fifth three.1 in
    let five = or_none (first_breaking p k 5 (is_without_target p k)) sixth four.1 in
    record {
      sizes = λ i lt. unbroken p k 2 (has_other_size p k) i two.0 lt;
      apart = λ i lt. unbroken p k 6 (shares_byte_with_earlier p k) i five.1 lt;
    }

not_false : (b : Bool) → not b ≡ false → b ≡ true
not_false true e = refl
not_false false e = absurd (true≢false e)

pub size_of_field : (p : Program) (k i : ℕ) (kind : RelocKind) → AreSound p k → i < length (key_relocs p k) → reloc_kind p (reloc_in p k i) ≡ Some kind → is_field_kind kind ≡ true
    → IsFieldSize (reloc_in p k i).size
size_of_field p k i kind sound lt is field =
    let P : Option RelocKind → Type 0 = λ o. option_map_or (λ (m : RelocKind). not (may_have_size m (reloc_in p k i).size)) o false ≡ false in
    field_sized kind (reloc_in p k i).size field (not_false (may_have_size kind (reloc_in p k i).size) (subst P is (sound.sizes i lt)))

both_false : (a b : Bool) → (a && b) ≡ false → a ≡ true → b ≡ false
both_false true b e t = e
both_false false b e t = absurd (true≢false (sym t))

any_false : (test : ℕ → Bool) (a n j : ℕ) → list_any test (range_with_len a n) ≡ false → j < n → test (a + j) ≡ false
any_false test a zero j e lt = absurd (omega (arith, lt))
any_false test a (suc n) zero e lt =
    let P : ℕ → Type 0 = λ m. test m ≡ false in
    let same : a ≡ a + zero = omega arith in
    subst P same (first (test a) (list_any test (range_with_len (a + 1) n)) e)
  where
    first : (x y : Bool) → (x || y) ≡ false → x ≡ false
    first true y e = e
    first false y e = refl
any_false test a (suc n) (suc j) e lt =
    let P : ℕ → Type 0 = λ m. test m ≡ false in
    let same : a + 1 + j ≡ a + suc j = omega arith in
    subst P same (any_false test (a + 1) n j (second (test a) (list_any test (range_with_len (a + 1) n)) e) (omega arith))
  where
    second : (x y : Bool) → (x || y) ≡ false → y ≡ false
    second true y e = absurd (true≢false e)
    second false y e = e

-- two relocations with fields share no byte
pub share_none : (p : Program) (k i j : ℕ) → AreSound p k → i < length (key_relocs p k) → j < i → is_field p k i ≡ true → is_field p k j ≡ true
    → shares_byte (reloc_in p k j) (reloc_in p k i) ≡ false
share_none p k i j sound lt less field other =
    let any = both_false (is_field p k i) (list_any (shares_byte_with p k i) (range_with_len 0 i)) (sound.apart i lt) field in
    let P : ℕ → Type 0 = λ m. shares_byte_with p k i m ≡ false in
    let same : 0 + j ≡ j = omega arith in
    both_false (is_field p k j) (shares_byte (reloc_in p k j) (reloc_in p k i)) (subst P same (any_false (shares_byte_with p k i) 0 i j any less)) other

-- of two fields that share no byte the one ends before the other begins, or where it begins
pub apart_by : (one other : Reloc) → shares_byte one other ≡ false → IsFieldSize other.size → field_start one ≤ field_start other → field_start one + one.size ≤ field_start other
apart_by one other e size order =
    cases (nat_lt (field_start one) (field_start other + other.size)) (nat_lt (field_start other) (field_start one + one.size)) refl refl e
  where
    cases : (a b : Bool) → nat_lt (field_start one) (field_start other + other.size) ≡ a → nat_lt (field_start other) (field_start one + one.size) ≡ b → (a && b) ≡ false → field_start one + one.size ≤ field_start other
    cases true true x y e = absurd (true≢false e)
    cases true false x y e = grind (arith, nat_tests)
    cases false b x y e = elim size [
      | inl four ↦ absurd (let bad : field_start other + other.size ≤ field_start one = grind (arith, nat_tests) in omega arith)
      | inr eight ↦ absurd (let bad : field_start other + other.size ≤ field_start one = grind (arith, nat_tests) in omega arith)
    ]
