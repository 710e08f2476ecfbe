-- The fields of module data, by the parts of the section.
use Rattle.std.proofs.Common.{◌≡◌, ℕ, ◌+◌, ◌-◌, ◌≤◌, [], ◌∷◌, length, refl, arith}
use Rattle.glk_base.specs.Fields.{fields_bytes, u64}
use Rattle.glk_pctab.specs.Functions.{Pclntab}
use Rattle.glk_pctab.specs.Parts.{ArePartsOf}
use Rattle.glk_pctab.specs.declared.section.Parts.{Parts}
use Rattle.glk_pctab.proofs.SectionLemmas.{cutab_end, files_end, tables_end, pclntable_end}
use Rattle.glk_pcln.specs.ModuleData.{table_fields}

pub fields_are : (t : Pclntab) (p : Parts) (at n : ℕ) → ArePartsOf t p → n ≡ length t.functions
    → fields_bytes (u64 at ∷ u64 (at + 72) ∷ u64 p.name_bytes ∷ u64 p.name_bytes ∷ u64 (at + p.cutab) ∷ u64 p.entries ∷ u64 p.entries
    ∷ u64 (at + p.filetab) ∷ u64 p.file_bytes ∷ u64 p.file_bytes ∷ u64 (at + p.pctab) ∷ u64 p.table_bytes ∷ u64 p.table_bytes
    ∷ u64 (at + p.pclntable) ∷ u64 (p.end - p.pclntable) ∷ u64 (p.end - p.pclntable) ∷ u64 (at + p.pclntable) ∷ u64 (n + 1) ∷ u64 (n + 1) ∷ [])
    ≡ fields_bytes (table_fields at t)
fields_are t p at n is count =
    let a = is.cutab in
    let b = is.filetab in
    let c = is.pctab in
    let d = is.pclntable in
    let e = is.lengths.names_long in
    let f = is.lengths.entries_long in
    let g = is.lengths.files_long in
    let h = is.lengths.tables_long in
    let i = is.lengths.ends in
    rw (a, b, c, d, e, f, g, h, i, count) refl

pub cutab_inside : (t : Pclntab) (p : Parts) → ArePartsOf t p → p.cutab ≤ p.end
cutab_inside t p is = omega (arith, is.cutab, is.lengths.ends, cutab_end t)

pub filetab_inside : (t : Pclntab) (p : Parts) → ArePartsOf t p → p.filetab ≤ p.end
filetab_inside t p is = omega (arith, is.filetab, is.lengths.ends, files_end t)

pub pctab_inside : (t : Pclntab) (p : Parts) → ArePartsOf t p → p.pctab ≤ p.end
pctab_inside t p is = omega (arith, is.pctab, is.lengths.ends, tables_end t)

pub pclntable_inside : (t : Pclntab) (p : Parts) → ArePartsOf t p → p.pclntable ≤ p.end
pclntable_inside t p is = omega (arith, is.pclntable, is.lengths.ends, pclntable_end t)
