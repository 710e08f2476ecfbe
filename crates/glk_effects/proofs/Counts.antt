-- A type whose methods can be read has no more triples than methods.
use Rattle.std.proofs.Common.{◌≡◌, ◌+◌, ◌*◌, ◌%◌, ◌<◌, ◌≤◌, ℕ, zero, suc, Bool, true, false, cond, not, List, [], ◌∷◌, take, length, Option, Some, None, Ok, Err, ◌⊎◌, inl, inr, refl, sym, ap, ◌∙◌, subst, arith, length-append}
use Rattle.std.specs.Prelude.{IfOk, Result, nat_lt, pos, get_or, ◌==◌, ◌&&◌, slice_get}
use Rattle.std.specs.List.{filter_map, range_with_len}
use Rattle.std.specs.Option.{option_map, option_map_or, option_or}
use Rattle.std.proofs.lemmas.Bool.Decides.{nat_tests}
use Rattle.std.proofs.lemmas.List.{take_all}
use Rattle.std.proofs.lemmas.Option.{slice_get_past, slice_get-get_or}
use Rattle.glk_readings.proofs.RelocationWalks.{offsets_more, offsets_same, triples_more, triples_same, phase_more}
use Rattle.glk_readings.specs.Readings.{MethodEntries, broken_by, methodoff_offsets, methods_read, read_unless}
use Rattle.glk_readings.specs.Symbols.{SymbolTable}
use Rattle.glk_readings.specs.Views.{entries_of, entries_view}
use Rattle.glk_readings.specs.declared.unreadable.Unreadable.{Unreadable}
use Rattle.glk_types.specs.Methods.{count_of}
use Rattle.glk_types.specs.declared.entries.Methods.{Methods}
use Rattle.glk_readings.specs.Triples.{is_methodoff_at, run_before, begins_triple, triple_from, triple_at, triples_of}
use Rattle.glk_readings.specs.declared.symbols.Relocation.{Relocation}
use Rattle.glk_readings.specs.declared.triples.MethodTriple.{MethodTriple}
use Rattle.glk_types.specs.Faults.{header_fault, uncommon_fault, inside_fault, offsets_fault, methods_fault, other_from}
use Rattle.glk_types.specs.Types.{method_count, methods_offset, methodoff_offset}

no_relocation : Relocation
no_relocation = record { offset = 0; addend = pos 0; target = None; is_methodoff = false }

bool_cases : (b : Bool) → (b ≡ true) ⊎ (b ≡ false)
bool_cases true = inl refl
bool_cases false = inr refl

both_true : (a b : Bool) → (a && b) ≡ true → (a ≡ true) × (b ≡ true)
both_true true b e = (refl, e)
both_true false b e = absurd (let bad : false ≡ true = e in cc)

some_if : (b : Bool) (x y : MethodTriple) → cond b (Some x) None ≡ Some y → b ≡ true
some_if true x y e = refl
some_if false x y e = absurd (let bad : None ≡ Some y = e in cc)

module _ (relocs : List Relocation) where
  -- a triple begins at relocation i
  pub record Begins (i : ℕ) : Type 0 where
    pub phase : run_before relocs i % 3 ≡ 0
    pub second : is_methodoff_at relocs (i + 1) ≡ true
    pub third : is_methodoff_at relocs (i + 2) ≡ true

  begins : (i : ℕ) (triple : MethodTriple) → triple_from relocs i ≡ Some triple → Begins i
  unfolding triple_from
  begins i triple e =
      let b : begins_triple relocs i ≡ true = some_if (begins_triple relocs i) (triple_at relocs i) triple e in
      let one = both_true (run_before relocs i % 3 == 0) (is_methodoff_at relocs i && (is_methodoff_at relocs (i + 1) && is_methodoff_at relocs (i + 2))) b in
      let two = both_true (is_methodoff_at relocs i) (is_methodoff_at relocs (i + 1) && is_methodoff_at relocs (i + 2)) one.1 in
      let three = both_true (is_methodoff_at relocs (i + 1)) (is_methodoff_at relocs (i + 2)) two.1 in
      record { phase = grind (arith, nat_tests, one.0); second = three.0; third = three.1 }

  abbrev found_below : ℕ → ℕ
  found_below i = length (filter_map (triple_from relocs) (range_with_len 0 i))

  abbrev methodoffs_below : ℕ → ℕ
  methodoffs_below i = length (methodoff_offsets (take i relocs))

  -- of the triples that begin before relocation i all METHODOFFs stand before it, or of the last one all but two, or all but one
  pub data Counted (i : ℕ) : Type 0 where
    whole : 3 * found_below i ≤ methodoffs_below i → Counted i
    first : run_before relocs i % 3 ≡ 1 → 3 * found_below i ≤ methodoffs_below i + 2 → is_methodoff_at relocs i ≡ true → is_methodoff_at relocs (i + 1) ≡ true → Counted i
    second : run_before relocs i % 3 ≡ 2 → 3 * found_below i ≤ methodoffs_below i + 1 → is_methodoff_at relocs i ≡ true → Counted i

  module _ (i : ℕ) (reloc : Relocation) (here : slice_get relocs i ≡ Some reloc) where
    at_here : is_methodoff_at relocs i ≡ reloc.is_methodoff
    at_here = ap (λ (o : Option Relocation). option_map_or (λ r. r.is_methodoff) o false) here

    one_methodoff : reloc.is_methodoff ≡ true → methodoffs_below (i + 1) ≡ methodoffs_below i + 1
    one_methodoff is =
        let more = offsets_more relocs i reloc here (ap not is) in
        ap length more ∙ length-append (methodoff_offsets (take i relocs)) (reloc.offset ∷ [])

    no_methodoff : reloc.is_methodoff ≡ false → methodoffs_below (i + 1) ≡ methodoffs_below i
    no_methodoff is = ap length (offsets_same relocs i reloc here (ap not is))

    one_triple : (triple : MethodTriple) → triple_from relocs i ≡ Some triple → found_below (i + 1) ≡ found_below i + 1
    one_triple triple e = ap length (triples_more relocs i triple e) ∙ length-append (filter_map (triple_from relocs) (range_with_len 0 i)) (triple ∷ [])

    no_triple : triple_from relocs i ≡ None → found_below (i + 1) ≡ found_below i
    no_triple e = ap length (triples_same relocs i e)

    next_phase : reloc.is_methodoff ≡ true → run_before relocs (i + 1) % 3 ≡ (run_before relocs i % 3 + 1) % 3
    next_phase is = sym (phase_more relocs i reloc here true is (run_before relocs i % 3) refl)

    again : is_methodoff_at relocs (i + 2) ≡ true → is_methodoff_at relocs (i + 1 + 1) ≡ true
    again h = let e : i + 1 + 1 ≡ i + 2 = omega arith in rw e h

    -- a triple that begins here
    begun : (triple : MethodTriple) → triple_from relocs i ≡ Some triple → reloc.is_methodoff ≡ true → Counted i → Counted (i + 1)
    begun triple e is (whole few) =
        let b = begins i triple e in
        let t = one_triple triple e in
        let m = one_methodoff is in
        let r = next_phase is in
        let phase = b.phase in
        first (r ∙ ap (λ n. (n + 1) % 3) phase) (omega arith) b.second (again b.third)
    begun triple e is (first phase few a c) = absurd (let b = begins i triple e in let same = b.phase in omega arith)
    begun triple e is (second phase few a) = absurd (let b = begins i triple e in let same = b.phase in omega arith)

    within : triple_from relocs i ≡ None → reloc.is_methodoff ≡ true → Counted i → Counted (i + 1)
    within e is (whole few) = let t = no_triple e in let m = one_methodoff is in whole (omega arith)
    within e is (first phase few a c) =
        let t = no_triple e in let m = one_methodoff is in let r = next_phase is in
        second (r ∙ ap (λ n. (n + 1) % 3) phase) (omega arith) c
    within e is (second phase few a) = let t = no_triple e in let m = one_methodoff is in whole (omega arith)

    outside : triple_from relocs i ≡ None → reloc.is_methodoff ≡ false → Counted i → Counted (i + 1)
    outside e is (whole few) = let t = no_triple e in let m = no_methodoff is in whole (omega arith)
    outside e is (first phase few a c) = absurd (let bad : true ≡ false = sym a ∙ at_here ∙ is in cc)
    outside e is (second phase few a) = absurd (let bad : true ≡ false = sym a ∙ at_here ∙ is in cc)

    begins_at : (triple : MethodTriple) → triple_from relocs i ≡ Some triple → is_methodoff_at relocs i ≡ true
    unfolding triple_from
    begins_at triple e =
        let b : begins_triple relocs i ≡ true = some_if (begins_triple relocs i) (triple_at relocs i) triple e in
        let one = both_true (run_before relocs i % 3 == 0) (is_methodoff_at relocs i && (is_methodoff_at relocs (i + 1) && is_methodoff_at relocs (i + 2))) b in
        (both_true (is_methodoff_at relocs i) (is_methodoff_at relocs (i + 1) && is_methodoff_at relocs (i + 2)) one.1).0

    by_triple : (o : Option MethodTriple) → triple_from relocs i ≡ o → Counted i → Counted (i + 1)
    by_triple (Some triple) e c = begun triple e (sym at_here ∙ begins_at triple e) c
    by_triple None e c = elim (bool_cases reloc.is_methodoff) [ inl is ↦ within e is c | inr is ↦ outside e is c ]

    next : Counted i → Counted (i + 1)
    next c = by_triple (triple_from relocs i) refl c

  counted : (i : ℕ) → i ≤ length relocs → Counted i
  counted zero h = whole (omega arith)
  counted (suc i) h =
      let n : i + 1 ≡ suc i = omega arith in
      let inside : i < length relocs = omega arith in
      let P : ℕ → Type 0 = Counted in
      subst P n (next i (get_or relocs i no_relocation) (slice_get-get_or relocs i no_relocation inside) (counted i (omega arith)))

  none_past : is_methodoff_at relocs (length relocs) ≡ true → ⊥
  none_past is =
      let e : slice_get relocs (length relocs) ≡ None = slice_get_past relocs (length relocs) (omega arith) in
      let bad : false ≡ true = sym (ap (λ (o : Option Relocation). option_map_or (λ r. r.is_methodoff) o false) e) ∙ is in
      cc

  all_counted : Counted (length relocs) → 3 * found_below (length relocs) ≤ length (methodoff_offsets relocs)
  all_counted (whole few) = let e = ap (λ xs. length (methodoff_offsets xs)) (take_all (length relocs) relocs (omega arith)) in omega (arith, e)
  all_counted (first phase few a c) = absurd (none_past a)
  all_counted (second phase few a) = absurd (none_past a)

  pub few_triples : 3 * length (triples_of relocs) ≤ length (methodoff_offsets relocs)
  unfolding triples_of
  few_triples = all_counted (counted (length relocs) (omega arith))

-- where none is another and none lacks, there are three for each method
as_many : (start count j : ℕ) (offsets : List ℕ) → j ≤ 3 * count → other_from start count j offsets ≡ None → j + length offsets ≡ 3 * count
as_many start count j [] inside is = grind (arith, nat_tests, is)
as_many start count j (o ∷ offsets) inside is = elim (bool_cases (nat_lt j (3 * count) && (o == methodoff_offset start j))) [
  | inl holds ↦
      let below : j < 3 * count = grind (arith, nat_tests, holds) in
      let rest = as_many start count (j + 1) offsets (omega (arith, below)) (rw holds at is) in
      omega (arith, rest)
  | inr fails ↦ absurd (let e : Some o ≡ None = rw fails at is in cc)
]

unless_ok : (k : ℕ) (fault : Option (ℕ × ℕ)) (x y : MethodEntries) → read_unless k fault x ≡ Ok y → (fault ≡ None) × (x ≡ y)
unless_ok k None x y e = (refl, cc)
unless_ok k (Some fault) x y e = absurd (let bad : Err (broken_by k fault) ≡ Ok y = e in cc)

last_none : (a b : Option (ℕ × ℕ)) → option_or a b ≡ None → b ≡ None
last_none None b e = e
last_none (Some x) b e = absurd (let bad : Some x ≡ None = e in cc)

none_mapped : (o : Option ℕ) (f : ℕ → ℕ × ℕ) → option_map f o ≡ None → o ≡ None
none_mapped None f e = refl
none_mapped (Some x) f e = absurd (let bad : Some (f x) ≡ None = e in cc)

no_fault_counts : (b : List ℕ) (offsets : List ℕ) → methods_fault b offsets ≡ None → length offsets ≡ 3 * method_count b
unfolding methods_fault offsets_fault
no_fault_counts b offsets e =
    let one = last_none (header_fault b) (option_or (uncommon_fault b) (option_or (inside_fault b) (offsets_fault b offsets))) e in
    let two = last_none (uncommon_fault b) (option_or (inside_fault b) (offsets_fault b offsets)) one in
    let three = last_none (inside_fault b) (offsets_fault b offsets) two in
    let none = none_mapped (other_from (methods_offset b) (method_count b) 0 offsets) (λ offset. (5, offset)) three in
    let many = as_many (methods_offset b) (method_count b) 0 offsets (omega arith) none in
    omega arith

pub few_of_methods : (s : SymbolTable) (k : ℕ) (entries : MethodEntries) → methods_read s k ≡ Ok entries → length (triples_of (s.relocs k)) ≤ entries.count
unfolding methods_read
few_of_methods s k entries e =
    let h = unless_ok k (methods_fault (s.content k) (methodoff_offsets (s.relocs k))) (record { count = method_count (s.content k); start = methods_offset (s.content k) }) entries e in
    let counts = no_fault_counts (s.content k) (methodoff_offsets (s.relocs k)) h.0 in
    let few = few_triples (s.relocs k) in
    let same : method_count (s.content k) ≡ entries.count = ap (λ (x : MethodEntries). x.count) h.1 in
    omega arith

pub few_triples_of : (s : SymbolTable) (k : ℕ) (methods : Result Methods Unreadable) → entries_view methods ≡ methods_read s k → IfOk methods (λ entries. length (triples_of (s.relocs k)) ≤ count_of entries)
few_triples_of s k (Ok entries) e = few_of_methods s k (entries_of entries) (sym e)
few_triples_of s k (Err why) e = tt
