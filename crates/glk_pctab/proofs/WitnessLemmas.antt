-- The premises of the laws are met by a function with an inlined call.
use Rattle.std.proofs.Common.{◌≡◌, ◌∙◌, ℕ, zero, suc, ◌^◌, ◌<◌, [], ◌∷◌, get_or, Some, None, cond, refl, sym, ap, subst, arith, true, false, inl, inr, lit<, ℤ, pos, negsuc}
use Rattle.std.specs.Prelude.{nat_lt}
use Rattle.std.proofs.lemmas.Bool.{cases_lt}
use Rattle.glk_base.specs.Varint.{varint_of}
use Rattle.glk_pcval.specs.Step.{zigzag, fits_i32, next_value, next_end, ends_table, next_of}
use Rattle.glk_pcval.specs.Table.{value_of, value_in, ranges, ranges_from, IsTable}
use Rattle.glk_frames.specs.Chain.{chain, at_index}
use Rattle.glk_frames.specs.Object.{frames_of, step_of, file_of, line_of, before_zero}
use Rattle.glk_pctab.specs.FirstUse.{is_among, with_first, with_each, concat_of}
use Rattle.glk_pctab.specs.Functions.{func, function, funcdata_of, InlinedCall, entries_of, entries_named, tree_offset}
use Rattle.glk_pctab.specs.Section.{next_multiple, entries_from, cutab_at, filetab_at, pctab_at, pclntable_at, functab_end, start_in}
use Rattle.glk_pctab.specs.Sound.{IsSound, HasSoundTables, CanWrite, AreApart, IsOffset}
use Rattle.glk_pctab.specs.Building.{end_from}
use Rattle.glk_pctab.specs.Witness.{one_call, one_table, one_function, one_pclntab}
use Rattle.glk_pctab.proofs.Assembly.{length_section}

table_whole : IsTable one_table
unfolding next_of zigzag fits_i32 next_value next_end ends_table varint_of
table_whole = ((pos 0, 16) ∷ [], inr (2, refl, refl))

empty_whole : IsTable []
empty_whole = ([], inl (refl, refl))

table_ranges : ranges one_table ≡ (pos 0, 16) ∷ []
unfolding ranges_from next_of zigzag fits_i32 next_value next_end ends_table varint_of
table_ranges = refl

first_value : (off : ℤ) (k : ℕ) → value_of one_table off ≡ Some (pos k) → k < 1
first_value (negsuc off) k is = absurd (let bad : None ≡ Some (pos k) = is in cc)
first_value (pos off) k is =
    let e : cond (nat_lt off 16) (Some (pos 0)) None ≡ Some (pos k) = ap (λ rs. value_in rs off) (sym table_ranges) ∙ is in
    elim (cases_lt off 16) [
      | inl less ↦
          let near : nat_lt off 16 ≡ true = grind (arith, less) in
          let h : Some (pos 0) ≡ Some (pos k) = rw near at e in
          let z : pos 0 ≡ pos k = cc in
          let n : 0 ≡ k = cc in omega (arith, n)
      | inr more ↦
          let far : nat_lt off 16 ≡ false = grind (arith, more) in
          let h : None ≡ Some (pos k) = rw far at e in absurd (let bad : None ≡ Some (pos k) = h in cc)
    ]

only_call : (k : ℕ) (n : InlinedCall) → at_index (one_call ∷ []) k ≡ Some n → one_call ≡ n
only_call zero n is = let h : Some one_call ≡ Some n = is in cc
only_call (suc k) n is = absurd (let bad : None ≡ Some n = is in cc)

small_data : (k : ℕ) → get_or (4294967295 ∷ 4294967295 ∷ 4294967295 ∷ 0 ∷ []) k 0 < 2 ^ 32
small_data zero = lit< tt
small_data (suc zero) = lit< tt
small_data (suc (suc zero)) = lit< tt
small_data (suc (suc (suc zero))) = lit< tt
small_data (suc (suc (suc (suc k)))) = lit< tt

one_tables : HasSoundTables one_pclntab one_function
one_tables = record {
  pcsp = empty_whole;
  pcfile = table_whole;
  pcline = empty_whole;
  pcinline = table_whole;
  files = first_value;
  inlined = first_value;
  parents = λ k n is. subst (λ (m : InlinedCall). IsOffset m.node.parent) (only_call k n is) (refl, lit< tt);
}

tables_at : (i : ℕ) → i < 1 → HasSoundTables one_pclntab (function one_pclntab i)
tables_at zero inside = one_tables
tables_at (suc i) inside = absurd (omega arith)

write_at : (i : ℕ) → i < 1 → CanWrite 1 (tree_offset 0 (one_function ∷ []) i) (function one_pclntab i)
write_at zero inside = record { unit = lit< tt; pcdata = lit< tt; funcdata = lit< tt; trees = lit< tt }
write_at (suc i) inside = absurd (omega arith)

data_at : (i : ℕ) → i < 1 → (k : ℕ) → get_or (funcdata_of (tree_offset 0 (one_function ∷ []) i) (function one_pclntab i)) k 0 < 2 ^ 32
data_at zero inside k = small_data k
data_at (suc i) inside k = absurd (omega arith)

parts_end : pclntable_at one_pclntab ≡ 88
unfolding pclntable_at pctab_at filetab_at cutab_at next_multiple concat_of with_each with_first is_among entries_from entries_named entries_of ranges_from next_of zigzag fits_i32 next_value next_end ends_table varint_of
parts_end = refl

records_end : end_from (functab_end one_pclntab.functions) one_pclntab.functions ≡ 88
unfolding end_from next_multiple
records_end = refl

pub one_is_sound : IsSound one_pclntab
one_is_sound = record {
  tables = tables_at;
  write = write_at;
  funcdata = data_at;
  short = omega (arith, length_section one_pclntab, parts_end, records_end);
}

start_below : (j : ℕ) → j < 1 → start_in one_pclntab j < 16
start_below zero inside = lit< tt
start_below (suc j) inside = absurd (omega arith)

pub one_is_apart : AreApart one_pclntab
one_is_apart = record {
  first = refl;
  apart = λ j below. absurd (omega (arith, below));
  below = start_below;
  size_fits = lit< tt;
}

-- inside the call two frames are shown, that of the inlined function first
pub one_frames : frames_of (func one_pclntab 0) (pos 3) ≡ record { name = 103 ∷ []; file = 97 ∷ []; line = pos 0 } ∷ record { name = 102 ∷ []; file = 63 ∷ []; line = pos 0 } ∷ []
unfolding frames_of step_of file_of line_of before_zero chain ranges_from next_of zigzag fits_i32 next_value next_end ends_table varint_of
one_frames = refl
