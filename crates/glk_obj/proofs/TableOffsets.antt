-- What the rules on the tables of indices give.
use Rattle.std.proofs.Common.{◌≡◌, ◌+◌, ◌-◌, ◌*◌, ◌<◌, ◌≤◌, inl, inr, ℕ, List, length, arith, refl, subst, zero, suc}
use Rattle.std.proofs.lemmas.Bool.{cases_lt, cases_eq}
use Rattle.glk_base.specs.Rules.{IsIntact}
use Rattle.glk_obj.specs.Blocks.{offset_of, count, header_offset, entry_width}
use Rattle.glk_obj.specs.Layout.{HasLayout}
use Rattle.glk_obj.specs.Positive.{HasIndexTables}
use Rattle.glk_obj.specs.Records.{definitions, entry_offset, entry_at}
use Rattle.glk_obj.specs.Rules.{Breaks, IsBadEntry, IsTable, pointed_block}
use Rattle.glk_obj.proofs.BlockOrder.{table_room}

no_bad : (b : List ℕ) (t i : ℕ) → IsIntact (Breaks b) 10 → IsTable t → i < count b t → IsBadEntry b t i → ⊥
no_bad b t i intact table index bad = intact.no 10 (entry_offset b t i) (omega arith) (record { group = t; among = table; fault = record { index = i; inside = index; at = refl; bad = bad } })

rises : (b : List ℕ) (t i : ℕ) → IsIntact (Breaks b) 10 → IsTable t → i + 1 < count b t → entry_at b t i ≤ entry_at b t (i + 1)
unfolding IsBadEntry
rises b t i intact table index =
    elim (cases_lt (entry_at b t (i + 1)) (entry_at b t i)) [
      | inl below ↦
          let e : i ≡ i + 1 - 1 = omega arith in
          let P : ℕ → Type 0 = λ j. entry_at b t (i + 1) < entry_at b t j in
          absurd (no_bad b t (i + 1) intact table index (inl (omega arith, subst P e below)))
      | inr fine ↦ fine
    ]

within : (b : List ℕ) (t d i : ℕ) → IsIntact (Breaks b) 10 → IsTable t → i + d + 1 ≡ count b t → entry_at b t i ≤ count b (pointed_block t)
unfolding IsBadEntry
within b t zero i intact table last =
    elim (cases_lt (count b (pointed_block t)) (entry_at b t i)) [
      | inl past ↦ absurd (no_bad b t i intact table (omega arith) (inr (omega arith, past)))
      | inr fine ↦ fine
    ]
within b t (suc d) i intact table last =
    let step : entry_at b t i ≤ entry_at b t (i + 1) = rises b t i intact table (omega arith) in
    let rest : entry_at b t (i + 1) ≤ count b (pointed_block t) = within b t d (i + 1) intact table (omega arith) in
    omega arith

counted : (b : List ℕ) (t : ℕ) → IsIntact (Breaks b) 10 → IsTable t → count b t ≡ definitions b + 1
counted b t intact table = elim (cases_eq (count b t) (definitions b + 1)) [
  | inl same ↦ same
  | inr other ↦ absurd (intact.no 9 (header_offset t) (omega arith) (record { group = t; among = table; fault = (other, refl) }))
]

-- Rules 9 and 10: the tables are indices of the definitions.
pub tables : (b : List ℕ) → IsIntact (Breaks b) 10 → HasIndexTables b
tables b intact = record {
  entries = λ t table. counted b t intact table;
  rises = λ t i table index. let n : count b t ≡ definitions b + 1 = counted b t intact table in rises b t i intact table (omega arith);
  within = λ t i table index. let n : count b t ≡ definitions b + 1 = counted b t intact table in within b t (definitions b - i) i intact table (omega arith);
}

-- a definition's entry and the next one are in the file
pub entry_room : (b : List ℕ) (t i : ℕ) → HasLayout b → HasIndexTables b → IsTable t → i < definitions b → entry_offset b t i + 2 * entry_width ≤ length b
entry_room b t i layout tables table index =
    let n : count b t ≡ definitions b + 1 = tables.entries t table in
    let room : offset_of b t + entry_width * count b t ≤ length b = table_room b t layout table in
    omega arith

mono_by : (b : List ℕ) (t j d : ℕ) → HasIndexTables b → IsTable t → j + d ≤ definitions b → entry_at b t j ≤ entry_at b t (j + d)
mono_by b t j zero tables table inside =
    let e : j ≡ j + 0 = omega arith in
    let P : ℕ → Type 0 = λ k. entry_at b t j ≤ entry_at b t k in subst P e (omega arith)
mono_by b t j (suc d) tables table inside =
    let step : entry_at b t j ≤ entry_at b t (j + d) = mono_by b t j d tables table (omega arith) in
    let next : entry_at b t (j + d) ≤ entry_at b t (j + d + 1) = tables.rises t (j + d) table (omega arith) in
    let e : j + d + 1 ≡ j + suc d = omega arith in
    let P : ℕ → Type 0 = λ k. entry_at b t j ≤ entry_at b t k in subst P e (omega arith)

-- the entries of a table rise
pub entry_mono : (b : List ℕ) (t j k : ℕ) → HasIndexTables b → IsTable t → j ≤ k → k ≤ definitions b → entry_at b t j ≤ entry_at b t k
entry_mono b t j k tables table below inside =
    let e : j + (k - j) ≡ k = omega arith in
    let P : ℕ → Type 0 = λ m. entry_at b t j ≤ entry_at b t m in subst P e (mono_by b t j (k - j) tables table (omega arith))
