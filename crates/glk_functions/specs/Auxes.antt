-- What a function's auxes name in a merged program. An aux names nothing where its place is empty.
use Rattle.std.specs.Prelude.{ℕ, suc, ◌==◌, ◌&&◌, Bool, true, false, List, [], ◌∷◌, map, Option, Some, None, if◌then◌else◌}
use Rattle.glk_obj.specs.Records.{Aux}
use Rattle.glk_obj.specs.Symbols.{type_of}
use Rattle.glk_obj.specs.declared.symbols.SymKind.{SymKind}
use Rattle.glk_keys.specs.Programs.{Program}
use Rattle.glk_keys.specs.Relocations.{auxes_of, aux_target}
use Rattle.glk_keys.specs.declared.target.Target.{Target}
use Rattle.glk_keys.specs.declared.target.Target.TheVariants as means
use Rattle.glk_reach.specs.Chosen.{is_defined, content_of, symbol_of}
use Rattle.glk_tables.specs.Function.{Target as Bytes, Absent, Undefined, Defined}
use Rattle.glk_tables.specs.declared.function.FuncdataTarget.{FuncdataTarget}
use Rattle.glk_tables.specs.declared.function.FuncdataTarget.TheVariants as funcdata
use Rattle.glk_functions.specs.declared.auxes.NamedAux.{NamedAux}

-- an aux of row r: its kind, and what it means
abbrev pub named_aux : Program → ℕ → Aux → NamedAux
named_aux p r aux = record { kind = aux.kind; target = aux_target p r aux }

-- the auxes of row r
abbrev pub named_auxes : Program → ℕ → List NamedAux
named_auxes p r = map (named_aux p r) (auxes_of p r)

-- something is meant: the place is not empty
abbrev pub is_named : Target → Bool
is_named means.Nothing = false
is_named (means.Key key) = true
is_named (means.Missing pkg index) = true

-- an aux of a kind whose place is not empty
abbrev pub names_as : ℕ → NamedAux → Bool
names_as kind aux = (aux.kind == kind) && is_named aux.target

-- how many auxes of a kind there are, empty places not counted, and what the first of them means
abbrev pub named_count : ℕ → List NamedAux → ℕ
named_count kind [] = 0
named_count kind (aux ∷ auxes) = if names_as kind aux then suc (named_count kind auxes) else named_count kind auxes

abbrev pub first_named : ℕ → List NamedAux → Target
first_named kind [] = means.Nothing
first_named kind (aux ∷ auxes) = if names_as kind aux then aux.target else first_named kind auxes

-- what each aux of a kind means, empty places among them
abbrev pub all_named : ℕ → List NamedAux → List Target
all_named kind [] = []
all_named kind (aux ∷ auxes) = if aux.kind == kind then aux.target ∷ all_named kind auxes else all_named kind auxes

-- The bytes that are meant: the data of a symbol with a definition. A name that the linker makes has a definition, and no data.
unfoldable pub bytes_of : Program → Target → Bytes
bytes_of p means.Nothing = Absent
bytes_of p (means.Key key) = if is_defined p key.0 then Defined (content_of p key.0) else Undefined
bytes_of p (means.Missing pkg index) = Undefined

-- as which a symbol of a type, or of none, is a funcdata
abbrev pub funcdata_typed : Option SymKind → FuncdataTarget
funcdata_typed None = funcdata.Untyped
funcdata_typed (Some kind) = funcdata.Typed kind

-- The funcdata that is meant. A symbol without a definition in an object has no type, nor has one that is missing.
unfoldable pub funcdata_of : Program → Target → FuncdataTarget
funcdata_of p means.Nothing = funcdata.Empty
funcdata_of p (means.Key key) = funcdata_typed (type_of (symbol_of p key.0).kind)
funcdata_of p (means.Missing pkg index) = funcdata.Untyped
