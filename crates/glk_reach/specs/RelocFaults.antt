-- The rules Q1 to Q6 on the relocations of a kept symbol.
use Rattle.std.specs.Prelude.{ℕ, ◌+◌, ◌-◌, ◌%◌, ◌==◌, ◌&&◌, ◌||◌, not, nat_lt, Bool, false, List, length, drop, get_or, Option, is_some}
use Rattle.std.specs.List.{find, list_any, range_with_len, take_while}
use Rattle.std.specs.Option.{option_map, option_map_or, option_or}
use Rattle.glk_obj.specs.Records.{Reloc, field_start}
use Rattle.glk_obj.specs.declared.kinds.RelocKind.{RelocKind}
use Rattle.glk_keys.specs.Programs.{Program}
use Rattle.glk_keys.specs.Relocations.{no_reloc, reloc_kind}
use Rattle.glk_readings.specs.Triples.{is_methodoff_at, target_at}
use Rattle.glk_readings.specs.declared.symbols.Relocation.{Relocation}
use Rattle.glk_reach.specs.Chosen.{key_relocs, relocations_of}
use Rattle.glk_reach.specs.KindFaults.{is_zeros}
use Rattle.glk_reach.specs.RelocKinds.{is_field_kind, needs_no_target, may_have_size}

-- relocation i of symbol k
abbrev pub reloc_in : Program → ℕ → ℕ → Reloc
reloc_in p k i = get_or (key_relocs p k) i no_reloc

-- a test of its kind; one whose number has no kind passes none
abbrev pub has_kind_that : Program → Reloc → (RelocKind → Bool) → Bool
has_kind_that p reloc test = option_map_or test (reloc_kind p reloc) false

-- Q1: its number is that of a kind.
abbrev pub has_no_kind : Program → ℕ → ℕ → Bool
has_no_kind p k i = not (is_some (reloc_kind p (reloc_in p k i)))

-- Q2: its size is one of its kind.
abbrev pub has_other_size : Program → ℕ → ℕ → Bool
has_other_size p k i = has_kind_that p (reloc_in p k i) (λ kind. not (may_have_size kind (reloc_in p k i).size))

-- Q3: a longest run of METHODOFF relocations, told by its first, is made of threes.
abbrev pub run_from : List Relocation → ℕ → ℕ
run_from relocs i = length (take_while (λ reloc. reloc.is_methodoff) (drop i relocs))

abbrev pub begins_run : List Relocation → ℕ → Bool
begins_run relocs i = is_methodoff_at relocs i && ((i == 0) || not (is_methodoff_at relocs (i - 1)))

abbrev pub begins_uneven_run : Program → ℕ → ℕ → Bool
begins_uneven_run p k i = begins_run (relocations_of p k) i && not (run_from (relocations_of p k) i % 3 == 0)

-- Q4: zeros have no fields.
abbrev pub is_field : Program → ℕ → ℕ → Bool
is_field p k i = has_kind_that p (reloc_in p k i) is_field_kind

abbrev pub is_field_in_zeros : Program → ℕ → ℕ → Bool
is_field_in_zeros p k i = is_field p k i && is_zeros p k

-- Q5: it has a target, unless its kind needs none.
abbrev pub is_without_target : Program → ℕ → ℕ → Bool
is_without_target p k i =
    not (is_some (target_at (relocations_of p k) i)) && not (has_kind_that p (reloc_in p k i) needs_no_target)

-- Q6: no two fields share a byte; the later one is told.
abbrev pub shares_byte : Reloc → Reloc → Bool
shares_byte one other =
    nat_lt (field_start one) (field_start other + other.size)
    && nat_lt (field_start other) (field_start one + one.size)

abbrev pub shares_byte_with : Program → (k i j : ℕ) → Bool
shares_byte_with p k i j = is_field p k j && shares_byte (reloc_in p k j) (reloc_in p k i)

abbrev pub shares_byte_with_earlier : Program → ℕ → ℕ → Bool
shares_byte_with_earlier p k i = is_field p k i && list_any (shares_byte_with p k i) (range_with_len 0 i)

-- the rule, and the first relocation of symbol k that breaks it, if one does
abbrev pub first_breaking : Program → ℕ → (rule : ℕ) → (ℕ → Bool) → Option (ℕ × ℕ)
first_breaking p k rule broken =
    option_map (λ i. (rule, i)) (find broken (range_with_len 0 (length (key_relocs p k))))

-- the first of these rules that a relocation of symbol k breaks, and the index of the first that does
unfoldable pub reloc_fault : Program → ℕ → Option (ℕ × ℕ)
reloc_fault p k =
    option_or (first_breaking p k 1 (has_no_kind p k))
    (option_or (first_breaking p k 2 (has_other_size p k))
    (option_or (first_breaking p k 3 (begins_uneven_run p k))
    (option_or (first_breaking p k 4 (is_field_in_zeros p k))
    (option_or (first_breaking p k 5 (is_without_target p k))
    (first_breaking p k 6 (shares_byte_with_earlier p k))))))
