-- What a definition calls, what it misses, and whether it is such as golink places, can be decided.
use Rattle.std.proofs.Common.{◌≡◌, ◌<◌, ◌≤◌, ◌+◌, ℕ, List, length, ◌⊎◌, inl, inr, refl, arith}
use Rattle.std.specs.Prelude.{pos, ◌-ℤ◌, ◌≤ℤ◌, IsTrue}
use Rattle.std.proofs.lemmas.Bool.{cases_lt}
use Rattle.glk_obj.specs.declared.kinds.RelocKind.TheVariants.{Call, PcRel}
use Rattle.glk_obj.specs.Numbers.{standard_number}
use Rattle.glk_obj.specs.Records.{Reloc, field_start}
use Rattle.glk_obj.specs.Symbols.{text_type, funcinfo, funcdata, pcsp, pcdata, IsTableKind}
use Rattle.glk_arena.specs.World.{Package}
use Rattle.glk_link.specs.World.{symbol_at, data_at, reloc_count, reloc_at, aux_count, aux_at}
use Rattle.glk_link.specs.declared.target.Target.{Target}
use Rattle.glk_link.specs.declared.target.Target.TheVariants as means
use Rattle.glk_link.specs.Targets.{is_row, target_of}
use Rattle.glk_link.specs.Reach.{IsCallKind, Calls, Misses}
use Rattle.glk_link.specs.Built.{call_size, addend_bound, IsBuiltReloc, IsInField, AreApart, AreBuiltRelocs, AreFieldsApart, HasNoTables, IsBuilt}
use Rattle.glk_package.proofs.Decided.{IsDecided, if_same, one_of, negated, below, at_most, is_true}
use Rattle.glk_link.proofs.Decided.{both, equal, signed_most, all_below}

-- Calls.

call_kind : (kind : ℕ) → IsDecided (IsCallKind kind)
call_kind kind =
    one_of (kind ≡ standard_number Call) (kind ≡ standard_number PcRel) (equal kind (standard_number Call)) (equal kind (standard_number PcRel))

means_row : (t : Target) (r : ℕ) → IsDecided (t ≡ means.Row r)
means_row (means.Row s) r = by_number (equal s r)
  where
    number_of : means.Row s ≡ means.Row r → s ≡ r
    number_of e = cc

    by_number : IsDecided (s ≡ r) → IsDecided (means.Row s ≡ means.Row r)
    by_number (inl same) = inl (cc same)
    by_number (inr other) = inr (λ e. other (number_of e))
means_row means.Nothing r = inr (λ e. cc e)
means_row means.Missing r = inr (λ e. cc e)

means_missing : (t : Target) → IsDecided (t ≡ means.Missing)
means_missing (means.Row s) = inr (λ e. cc e)
means_missing means.Nothing = inr (λ e. cc e)
means_missing means.Missing = inl refl

pub calls : (world : List Package) (i k t : ℕ) → IsDecided (Calls world i k t)
calls world i k t =
    let A : Type 0 = k < reloc_count world i in
    let B : Type 0 = IsCallKind (reloc_at world i k).kind in
    let C : Type 0 = target_of world i (reloc_at world i k).target ≡ means.Row t in
    if_same (A × (B × C)) (Calls world i k t) (λ h. record { within = h.0; kind = h.1.0; target = h.1.1 }) (λ h. (h.within, (h.kind, h.target)))
    (both A (B × C) (below k (reloc_count world i))
    (λ _. both B C (call_kind (reloc_at world i k).kind) (λ _. means_row (target_of world i (reloc_at world i k).target) t)))

pub misses : (world : List Package) (i k : ℕ) → IsDecided (Misses world i k)
misses world i k =
    let A : Type 0 = k < reloc_count world i in
    let B : Type 0 = IsCallKind (reloc_at world i k).kind in
    let C : Type 0 = target_of world i (reloc_at world i k).target ≡ means.Missing in
    if_same (A × (B × C)) (Misses world i k) (λ h. record { within = h.0; kind = h.1.0; target = h.1.1 }) (λ h. (h.within, (h.kind, h.target)))
    (both A (B × C) (below k (reloc_count world i))
    (λ _. both B C (call_kind (reloc_at world i k).kind) (λ _. means_missing (target_of world i (reloc_at world i k).target))))

-- Definitions that golink places.

built_reloc : (world : List Package) (i : ℕ) (r : Reloc) → IsDecided (IsBuiltReloc world i r)
built_reloc world i r =
    let A : Type 0 = IsCallKind r.kind in
    let B : Type 0 = r.size ≡ call_size in
    let C : Type 0 = IsTrue (is_row (target_of world i r.target)) in
    let D : Type 0 = (pos 0 -ℤ pos addend_bound) ≤ℤ r.add in
    let E : Type 0 = r.add ≤ℤ pos addend_bound in
    if_same (A × (B × (C × (D × E)))) (IsBuiltReloc world i r)
    (λ h. record { kind = h.0; size = h.1.0; called = h.1.1.0; low = h.1.1.1.0; high = h.1.1.1.1 })
    (λ h. (h.kind, (h.size, (h.called, (h.low, h.high)))))
    (both A (B × (C × (D × E))) (call_kind r.kind)
    (λ _. both B (C × (D × E)) (equal r.size call_size)
    (λ _. both C (D × E) (is_true (is_row (target_of world i r.target)))
    (λ _. both D E (signed_most (pos 0 -ℤ pos addend_bound) r.add) (λ _. signed_most r.add (pos addend_bound))))))

in_field : (r : Reloc) (p : ℕ) → IsDecided (IsInField r p)
in_field r p =
    if_same ((field_start r ≤ p) × (p < field_start r + r.size)) (IsInField r p)
    (λ h. record { from = h.0; to = h.1 }) (λ h. (h.from, h.to))
    (both (field_start r ≤ p) (p < field_start r + r.size) (at_most (field_start r) p) (λ _. below p (field_start r + r.size)))

-- fields share a byte where one of them begins in the other
apart : (r s : Reloc) → IsDecided (AreApart r s)
apart r s = by_starts (in_field r (field_start s)) (in_field s (field_start r))
  where
    begins : (a b : Reloc) → IsInField a (field_start b) → (p : ℕ) → IsInField b p → IsInField b (field_start b)
    begins a b h p within = record { from = omega arith; to = omega (arith, within.from, within.to) }

    by_size : (a b : Reloc) → IsInField a (field_start b) → IsDecided (IsInField b (field_start b)) → (AreApart r s → (p : ℕ) → IsInField a p → IsInField b p → ⊥)
        → ((((p : ℕ) → IsInField b p → ⊥)) → AreApart r s) → IsDecided (AreApart r s)
    by_size a b h (inl own) use_apart empty = inr (λ all. use_apart all (field_start b) h own)
    by_size a b h (inr none) use_apart empty = inl (empty (λ p within. none (begins a b h p within)))

    by_starts : IsDecided (IsInField r (field_start s)) → IsDecided (IsInField s (field_start r)) → IsDecided (AreApart r s)
    by_starts (inl h) d = by_size r s h (in_field s (field_start s)) (λ all p a b. all p a b) (λ none p a b. none p b)
    by_starts (inr n) (inl h) = by_size s r h (in_field r (field_start r)) (λ all p a b. all p b a) (λ none p a b. none p a)
    by_starts (inr n) (inr m) = inl (λ p a b. elim (cases_lt (field_start r) (field_start s)) [
      | inl before ↦ n (record { from = omega (arith, before); to = omega (arith, a.to, b.from) })
      | inr behind ↦ m (record { from = behind; to = omega (arith, b.to, a.from) })
    ])

fields_apart : (world : List Package) (i : ℕ) → IsDecided (AreFieldsApart world i)
fields_apart world i =
    if_same ((k : ℕ) → k < reloc_count world i → (j : ℕ) → j < k → AreApart (reloc_at world i j) (reloc_at world i k)) (AreFieldsApart world i)
    (λ h j k below within. h k within j below) (λ h k within j below. h j k below within)
    (all_below (λ k. (j : ℕ) → j < k → AreApart (reloc_at world i j) (reloc_at world i k)) (reloc_count world i)
    (λ k within. all_below (λ j. AreApart (reloc_at world i j) (reloc_at world i k)) k (λ j below. apart (reloc_at world i j) (reloc_at world i k))))

table_kind : (n : ℕ) → IsDecided (IsTableKind n)
unfolding IsTableKind
table_kind n =
    one_of ((n ≡ funcinfo) ⊎ (n ≡ funcdata)) ((pcsp ≤ n) × (n ≤ pcdata)) (one_of (n ≡ funcinfo) (n ≡ funcdata) (equal n funcinfo) (equal n funcdata))
    (both (pcsp ≤ n) (n ≤ pcdata) (at_most pcsp n) (λ _. at_most n pcdata))

no_tables : (world : List Package) (i : ℕ) → IsDecided (HasNoTables world i)
no_tables world i =
    all_below (λ k. IsTableKind (aux_at world i k).kind → ⊥) (aux_count world i)
    (λ k within. negated (IsTableKind (aux_at world i k).kind) (table_kind (aux_at world i k).kind))

pub is_built : (world : List Package) (i : ℕ) → IsDecided (IsBuilt world i)
is_built world i =
    let A : Type 0 = (symbol_at world i).kind ≡ text_type in
    let B : Type 0 = length (data_at world i) ≡ (symbol_at world i).size in
    let C : Type 0 = AreBuiltRelocs world i in
    let D : Type 0 = AreFieldsApart world i in
    let E : Type 0 = HasNoTables world i in
    if_same (A × (B × (C × (D × E)))) (IsBuilt world i)
    (λ h. record { code = h.0; whole = h.1.0; calls = h.1.1.0; apart = h.1.1.1.0; no_tables = h.1.1.1.1 })
    (λ h. (h.code, (h.whole, (h.calls, (h.apart, h.no_tables)))))
    (both A (B × (C × (D × E))) (equal (symbol_at world i).kind text_type)
    (λ _. both B (C × (D × E)) (equal (length (data_at world i)) (symbol_at world i).size)
    (λ _. both C (D × E) (all_below (λ k. IsBuiltReloc world i (reloc_at world i k)) (reloc_count world i) (λ k within. built_reloc world i (reloc_at world i k)))
    (λ _. both D E (fields_apart world i) (λ _. no_tables world i)))))
