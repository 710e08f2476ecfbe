-- How long a run of METHODOFF relocations is.
use Rattle.std.proofs.Common.{◌≡◌, ◌+◌, ◌<◌, ◌≤◌, ℕ, zero, suc, true, false, List, [], ◌∷◌, length, ◌⊎◌, inl, inr, refl, ap, arith}
use Rattle.std.specs.List.{prefix_len, take_while}
use Rattle.glk_readings.specs.Triples.{is_methodoff_at}
use Rattle.glk_readings.specs.declared.symbols.Relocation.{Relocation}
use Rattle.glk_reach.specs.RelocFaults.{run_from}

abbrev run : List Relocation → ℕ
run relocs = length (take_while (λ reloc. reloc.is_methodoff) relocs)

abbrev Ends : List Relocation → ℕ → Type 0
Ends relocs end = (end ≡ length relocs) ⊎ (is_methodoff_at relocs end ≡ false)

later_end : (reloc : Relocation) (relocs : List Relocation) (end : ℕ) → Ends (reloc ∷ relocs) (suc end) → Ends relocs end
later_end reloc relocs end (inl e) = inl (omega arith)
later_end reloc relocs end (inr not_so) = inr not_so

first_end : (reloc : Relocation) (relocs : List Relocation) → Ends (reloc ∷ relocs) zero → reloc.is_methodoff ≡ false
first_end reloc relocs (inl e) = absurd (let bad : 0 ≡ length (reloc ∷ relocs) = e in omega arith)
first_end reloc relocs (inr not_so) = not_so

whole : (relocs : List Relocation) (end : ℕ) → end ≤ length relocs → ((j : ℕ) → j < end → is_methodoff_at relocs j ≡ true) → Ends relocs end → run relocs ≡ end
whole [] zero inside each ends = refl
whole [] (suc end) inside each ends = absurd (let bad : suc end ≤ 0 = inside in omega arith)
whole (reloc ∷ relocs) zero inside each ends = let not_so = first_end reloc relocs ends in rw not_so refl
whole (reloc ∷ relocs) (suc end) inside each ends =
    let is_so : reloc.is_methodoff ≡ true = each 0 (omega arith) in
    let rest : run relocs ≡ end = whole relocs end (omega arith) (λ j h. each (suc j) (omega arith)) (later_end reloc relocs end ends) in
    let more : 1 + prefix_len (λ (x : Relocation). x.is_methodoff) relocs ≡ suc (prefix_len (λ (x : Relocation). x.is_methodoff) relocs) = omega arith in
    rw (is_so, more) (ap suc rest)

pub run_is : (relocs : List Relocation) (i end : ℕ) → i ≤ end → end ≤ length relocs → ((j : ℕ) → i ≤ j → j < end → is_methodoff_at relocs j ≡ true) → Ends relocs end → run_from relocs i + i ≡ end
run_is relocs zero end low inside each ends = let e : run relocs ≡ end = whole relocs end inside (λ j h. each j (omega arith) h) ends in omega (arith, e)
run_is [] (suc i) end low inside each ends = absurd (let bad : end ≤ 0 = inside in omega arith)
run_is (reloc ∷ relocs) (suc i) zero low inside each ends = absurd (omega arith)
run_is (reloc ∷ relocs) (suc i) (suc end) low inside each ends =
    let rest : run_from relocs i + i ≡ end = run_is relocs i end (omega arith) (omega arith) (λ j a b. each (suc j) (omega arith) (omega arith)) (later_end reloc relocs end ends) in
    let same : run_from (reloc ∷ relocs) (suc i) ≡ run_from relocs i = refl in
    omega arith
