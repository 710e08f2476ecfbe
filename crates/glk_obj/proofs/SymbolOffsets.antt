-- The five blocks of symbols are one row of records.
use Rattle.std.proofs.Common.{◌≡◌, ◌+◌, ◌-◌, ◌*◌, ◌<◌, ◌≤◌, inl, inr, ℕ, List, length, arith, refl, subst, sym}
use Rattle.std.proofs.lemmas.Bool.{cases_lt}
use Rattle.glk_obj.specs.declared.fields.Field.TheVariants.{Text}
use Rattle.glk_obj.specs.Blocks.{offset_of, count, width_of, symbol_width, symdef, hashed64def, hasheddef, nonpkgdef, nonpkgref, ref_flags}
use Rattle.glk_obj.specs.Fields.{HasField, shift_of, field_offset, IsFieldOffset}
use Rattle.glk_obj.specs.Layout.{HasLayout}
use Rattle.glk_obj.specs.Records.{definitions, symbols, symbol_offset}

-- a block of symbols ends where the next one begins
block_end : (b : List ℕ) (t : ℕ) → HasLayout b → symdef ≤ t → t ≤ nonpkgref → offset_of b (t + 1) ≡ offset_of b t + symbol_width * count b t
unfolding width_of
block_end b t layout low high =
    let e : offset_of b (t + 1) ≡ offset_of b t + width_of t * count b t = layout.whole t (omega arith) (omega arith) in
    let w : width_of t ≡ symbol_width = grind arith in
    let P : ℕ → Type 0 = λ n. offset_of b (t + 1) ≡ offset_of b t + n * count b t in subst P w e

-- where each of the blocks begins
pub record Row (b : List ℕ) : Type 0 where
  pub hashed64 : offset_of b hashed64def ≡ offset_of b symdef + symbol_width * count b symdef
  pub hashed : offset_of b hasheddef ≡ offset_of b hashed64def + symbol_width * count b hashed64def
  pub plain : offset_of b nonpkgdef ≡ offset_of b hasheddef + symbol_width * count b hasheddef
  pub references : offset_of b nonpkgref ≡ offset_of b nonpkgdef + symbol_width * count b nonpkgdef
  pub after : offset_of b ref_flags ≡ offset_of b nonpkgref + symbol_width * count b nonpkgref

pub row : (b : List ℕ) → HasLayout b → Row b
row b layout = record {
  hashed64 = block_end b symdef layout (omega arith) (omega arith);
  hashed = block_end b hashed64def layout (omega arith) (omega arith);
  plain = block_end b hasheddef layout (omega arith) (omega arith);
  references = block_end b nonpkgdef layout (omega arith) (omega arith);
  after = block_end b nonpkgref layout (omega arith) (omega arith);
}

pub definitions_fill : (b : List ℕ) → HasLayout b → offset_of b nonpkgref ≡ offset_of b symdef + symbol_width * definitions b
definitions_fill b layout = let r : Row b = row b layout in omega arith

pub symbols_fill : (b : List ℕ) → HasLayout b → offset_of b ref_flags ≡ offset_of b symdef + symbol_width * symbols b
symbols_fill b layout = let r : Row b = row b layout in omega arith

pub symbol_room : (b : List ℕ) (i : ℕ) → HasLayout b → i < symbols b → symbol_offset b i + symbol_width ≤ length b
symbol_room b i layout index =
    let fill : offset_of b ref_flags ≡ offset_of b symdef + symbol_width * symbols b = symbols_fill b layout in
    let within : offset_of b ref_flags ≤ length b = layout.within ref_flags (omega arith) in omega arith

at_offset : (b : List ℕ) (t j p : ℕ) → symdef ≤ t → t ≤ nonpkgref → p ≡ offset_of b t + symbol_width * j → p ≡ field_offset b Text t j
unfolding shift_of field_offset width_of
at_offset b t j p low high e =
    let w : width_of t ≡ symbol_width = grind arith in
    let s : shift_of Text t ≡ 0 = grind arith in
    let P : ℕ → Type 0 = λ n. p ≡ offset_of b t + n * j + shift_of Text t in subst P (sym w) (omega arith)

-- record j of block t is the symbol at this offset
in_block : (b : List ℕ) (t j p : ℕ) → symdef ≤ t → t ≤ nonpkgref → j < count b t → p ≡ offset_of b t + symbol_width * j → IsFieldOffset b Text p
unfolding HasField
in_block b t j p low high index e = record { block = t; among = inl high; index = j; inside = index; at = at_offset b t j p low high e }

-- each symbol is a record of one of the blocks, and has a name
pub symbol_is_field : (b : List ℕ) (i : ℕ) → HasLayout b → i < symbols b → IsFieldOffset b Text (symbol_offset b i)
symbol_is_field b i layout index =
    let r : Row b = row b layout in
    elim (cases_lt i (count b symdef)) [
      | inl here ↦ in_block b symdef i (symbol_offset b i) (omega arith) (omega arith) here refl
      | inr past ↦ elim (cases_lt i (count b symdef + count b hashed64def)) [
        | inl here ↦ in_block b hashed64def (i - count b symdef) (symbol_offset b i) (omega arith) (omega arith) (omega arith) (omega arith)
        | inr past ↦ elim (cases_lt i (count b symdef + count b hashed64def + count b hasheddef)) [
          | inl here ↦ in_block b hasheddef (i - count b symdef - count b hashed64def) (symbol_offset b i) (omega arith) (omega arith) (omega arith) (omega arith)
          | inr past ↦ elim (cases_lt i (definitions b)) [
            | inl here ↦ in_block b nonpkgdef (i - count b symdef - count b hashed64def - count b hasheddef) (symbol_offset b i) (omega arith) (omega arith) (omega arith) (omega arith)
            | inr past ↦ in_block b nonpkgref (i - definitions b) (symbol_offset b i) (omega arith) (omega arith) (omega arith) (omega arith)
          ]
        ]
      ]
    ]
