-- Local indices: the symbols of an object, counted through its blocks Symdef, Hashed64def, Hasheddef, Nonpkgdef, Nonpkgref.
use Rattle.std.specs.Prelude.{ℕ, ◌+◌, List}
use Rattle.glk_obj.specs.Blocks.{count, symdef, hashed64def, hasheddef, nonpkgdef, nonpkgref}
use Rattle.glk_obj.specs.Records.{definitions}

-- the local index of the first symbol of Hashed64def
abbrev pub first_hashed64 : List ℕ → ℕ
first_hashed64 b = count b symdef

-- of Hasheddef
abbrev pub first_hashed : List ℕ → ℕ
first_hashed b = count b symdef + count b hashed64def

-- of Nonpkgdef
abbrev pub first_named : List ℕ → ℕ
first_named b = count b symdef + count b hashed64def + count b hasheddef

-- of Nonpkgref, the references by name: all before them are definitions
abbrev pub first_reference : List ℕ → ℕ
first_reference b = definitions b

-- some symbols of an object, which have one local index after the other: the first one's, and how many they are
pub record SymbolRange : Type 0 where
  pub first : ℕ
  pub size : ℕ

-- those of Symdef
abbrev pub symdef_symbols : List ℕ → SymbolRange
symdef_symbols b = record { first = 0; size = count b symdef }

-- those of Hashed64def
abbrev pub hashed64_symbols : List ℕ → SymbolRange
hashed64_symbols b = record { first = first_hashed64 b; size = count b hashed64def }

-- those of Hasheddef
abbrev pub hashed_symbols : List ℕ → SymbolRange
hashed_symbols b = record { first = first_hashed b; size = count b hasheddef }

-- those of Nonpkgdef and then Nonpkgref
abbrev pub unpackaged_symbols : List ℕ → SymbolRange
unpackaged_symbols b = record { first = first_named b; size = count b nonpkgdef + count b nonpkgref }
