-- The relocations of a symbol, one more.
use Rattle.std.proofs.Common.{◌≡◌, ◌<◌, ◌+◌, ◌-◌, ◌%◌, ℕ, zero, suc, Bool, true, false, cond, List, [], ◌∷◌, ◌++◌, take, length, get_or, Some, None, refl, ap, arith, ◌∙◌, append-nil, not}
use Rattle.std.specs.List.{filter_map, range_with_len}
use Rattle.std.specs.Prelude.{slice_get}
use Rattle.std.proofs.Math.Seq.{take-suc}
use Rattle.std.proofs.lemmas.List.{map-append}
use Rattle.std.proofs.lemmas.List.Elements.{filter-append, filter_map-append}
use Rattle.std.proofs.lemmas.List.Sums.{suffix_len-take_yes, suffix_len-take_no}
use Rattle.std.proofs.lemmas.Option.{get_or_from_slice_get, slice_get_within}
use Rattle.glk_readings.specs.declared.symbols.Relocation.{Relocation}
use Rattle.glk_readings.specs.declared.triples.MethodTriple.{MethodTriple}
use Rattle.glk_readings.specs.Readings.{methodoff_offsets}
use Rattle.glk_readings.specs.Triples.{run_before, triple_from}

-- the first i + 1 relocations are the first i and the next
pub take_one_more : (relocs : List Relocation) (i : ℕ) (reloc : Relocation) → slice_get relocs i ≡ Some reloc → take (i + 1) relocs ≡ take i relocs ++ reloc ∷ []
take_one_more relocs i reloc here =
    let n : i + 1 ≡ suc i = omega arith in
    let inside : i < length relocs = slice_get_within relocs i reloc here in
    rw n (take-suc relocs i reloc inside ∙ ap (λ r. take i relocs ++ r ∷ []) (get_or_from_slice_get relocs i reloc reloc here))

offsets-push : (xs : List Relocation) (reloc : Relocation) (m : Bool) → reloc.is_methodoff ≡ m → methodoff_offsets (xs ++ reloc ∷ []) ≡ methodoff_offsets xs ++ cond m (reloc.offset ∷ []) []
unfolding methodoff_offsets
offsets-push xs reloc true e = simp (filter-append, map-append, e)
offsets-push xs reloc false e = simp (filter-append, map-append, e)

is_true : (b : Bool) → not b ≡ false → b ≡ true
is_true true e = refl
is_true false e = cc

is_false : (b : Bool) → not b ≡ true → b ≡ false
is_false true e = cc
is_false false e = refl

-- the next relocation is a METHODOFF, or it is not
pub offsets_more : (relocs : List Relocation) (i : ℕ) (reloc : Relocation) → slice_get relocs i ≡ Some reloc → not reloc.is_methodoff ≡ false → methodoff_offsets (take (i + 1) relocs) ≡ methodoff_offsets (take i relocs) ++ reloc.offset ∷ []
offsets_more relocs i reloc here is = rw (take_one_more relocs i reloc here) (offsets-push (take i relocs) reloc true (is_true reloc.is_methodoff is))

pub offsets_same : (relocs : List Relocation) (i : ℕ) (reloc : Relocation) → slice_get relocs i ≡ Some reloc → not reloc.is_methodoff ≡ true → methodoff_offsets (take (i + 1) relocs) ≡ methodoff_offsets (take i relocs)
offsets_same relocs i reloc here is = rw (take_one_more relocs i reloc here) (offsets-push (take i relocs) reloc false (is_false reloc.is_methodoff is) ∙ append-nil (methodoff_offsets (take i relocs)))

range_more : (a n j : ℕ) → a + n ≡ j → range_with_len a (n + 1) ≡ range_with_len a n ++ j ∷ []
range_more a zero j e = let h : a ≡ j = omega arith in rw h refl
range_more a (suc n) j e = let m : suc n + 1 ≡ suc (n + 1) = omega arith in rw m (ap (λ rest. a ∷ rest) (range_more (a + 1) n j (omega arith)))

-- the triples of the first i + 1 places: one more where a triple begins at place i
pub triples_more : (relocs : List Relocation) (i : ℕ) (triple : MethodTriple) → triple_from relocs i ≡ Some triple → filter_map (triple_from relocs) (range_with_len 0 (i + 1)) ≡ filter_map (triple_from relocs) (range_with_len 0 i) ++ triple ∷ []
triples_more relocs i triple e = rw (range_more 0 i i (omega arith), filter_map-append) (simp e)

pub triples_same : (relocs : List Relocation) (i : ℕ) → triple_from relocs i ≡ None → filter_map (triple_from relocs) (range_with_len 0 (i + 1)) ≡ filter_map (triple_from relocs) (range_with_len 0 i)
triples_same relocs i e = rw (range_more 0 i i (omega arith), filter_map-append) (simp (e, append-nil))

pub phase_more : (relocs : List Relocation) (i : ℕ) (reloc : Relocation) → slice_get relocs i ≡ Some reloc → (m : Bool) → reloc.is_methodoff ≡ m → (phase : ℕ) → phase ≡ run_before relocs i % 3 → cond m ((phase + 1) % 3) 0 ≡ run_before relocs (i + 1) % 3
phase_more relocs i reloc here true e phase p =
    let b : i + 1 - 1 ≡ i = omega arith in
    let inside : i < length relocs = slice_get_within relocs i reloc here in
    let at : get_or relocs i reloc ≡ reloc = get_or_from_slice_get relocs i reloc reloc here in
    let s : run_before relocs (i + 1) ≡ 1 + run_before relocs i = rw b at (suffix_len-take_yes (λ r. r.is_methodoff) relocs (i + 1) reloc (omega arith) (omega arith) (rw (b, at) e)) in
    rw (s, p) (omega arith)
phase_more relocs i reloc here false e phase p =
    let b : i + 1 - 1 ≡ i = omega arith in
    let inside : i < length relocs = slice_get_within relocs i reloc here in
    let at : get_or relocs i reloc ≡ reloc = get_or_from_slice_get relocs i reloc reloc here in
    let s : run_before relocs (i + 1) ≡ 0 = suffix_len-take_no (λ r. r.is_methodoff) relocs (i + 1) reloc (omega arith) (omega arith) (rw (b, at) e) in
    rw s refl
