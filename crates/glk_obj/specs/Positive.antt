-- What the rules give to a reader of an object, said of what there is.
use Rattle.std.specs.Prelude.{◌≡◌, ◌+◌, ◌<◌, ◌≤◌, ℕ, pos, List}
use Rattle.std.specs.Int.{cast_unsigned, w32}
use Rattle.glk_obj.specs.Blocks.{count, pkg_idx, symdef, hashed64def, hasheddef, nonpkgdef, nonpkgref}
use Rattle.glk_obj.specs.Packages.{nil_package, none_package, hashed64_package, hashed_package, self_package, IsImported}
use Rattle.glk_obj.specs.Records.{Symbol, SymbolRef, Reloc, definitions, entry_at}
use Rattle.glk_obj.specs.Rules.{IsTable, IsContentKind, pointed_block}

-- each table has an entry for each definition and one more, the entries rise, and none is past the
-- block that it points into
pub record HasIndexTables (b : List ℕ) : Type 0 where
  pub entries : (t : ℕ) → IsTable t → count b t ≡ definitions b + 1
  pub rises : (t i : ℕ) → IsTable t → i < definitions b → entry_at b t i ≤ entry_at b t (i + 1)
  pub within : (t i : ℕ) → IsTable t → i ≤ definitions b → entry_at b t i ≤ count b (pointed_block t)

-- a reference in range
pub record IsTarget (b : List ℕ) (r : SymbolRef) : Type 0 where
  pub nil : r.pkg ≡ nil_package → r.sym ≡ 0
  pub without_package : r.pkg ≡ none_package → r.sym < count b nonpkgdef + count b nonpkgref
  pub hashed64 : r.pkg ≡ hashed64_package → r.sym < count b hashed64def
  pub hashed : r.pkg ≡ hashed_package → r.sym < count b hasheddef
  pub own : r.pkg ≡ self_package → r.sym < count b symdef
  pub imported : IsImported r.pkg → r.pkg < count b pkg_idx

-- a relocation that does not begin before its symbol, and ends inside the symbol's size
pub record IsFieldInside (symbol : Symbol) (r : Reloc) : Type 0 where
  pub from : r.off ≡ pos (cast_unsigned w32 r.off)
  pub to : cast_unsigned w32 r.off + r.size ≤ symbol.size

-- what a symbol with content has no more of than its size says: bytes of data, and relocations inside it

abbrev pub HasDataWithin : Symbol → ℕ → Type 0
HasDataWithin symbol n = IsContentKind symbol.kind → n ≤ symbol.size

abbrev pub HasFieldWithin : Symbol → Reloc → Type 0
HasFieldWithin symbol r = IsContentKind symbol.kind → IsFieldInside symbol r
