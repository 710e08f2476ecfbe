-- The targets of relocations are keys of the program.
use Rattle.std.proofs.Common.{◌≡◌, ℕ, ◌+◌, ◌<◌, ◌≤◌, zero, suc, List, [], ◌∷◌, Bool, true, false, Option, Some, None, inl, inr, length, map, refl, subst, arith}
use Rattle.std.specs.Prelude.{nat_lt, ◌==◌, IfSome, slice_get, cond, if◌then◌else◌}
use Rattle.std.proofs.lemmas.Bool.{cases_lt}
use Rattle.glk_arena.specs.World.{objects_of, first_object, object_count}
use Rattle.glk_base.proofs.Groups.{lt_true, lt_false}
use Rattle.glk_obj.specs.Packages.{nil_package, none_package, hashed64_package, hashed_package, builtin_package, self_package}
use Rattle.glk_obj.specs.Records.{Reloc, SymbolRef, symbols}
use Rattle.glk_keys.proofs.ReferentLaws.{row_within, first_inside}
use Rattle.glk_keys.specs.LocalIndices.{SymbolRange, symdef_symbols, hashed64_symbols, hashed_symbols, unpackaged_symbols}
use Rattle.glk_keys.specs.Programs.{Program}
use Rattle.glk_keys.specs.Relocations.{reloc_target}
use Rattle.glk_keys.specs.RowLaws.{all_rows, own_count}
use Rattle.glk_keys.specs.Rows.{object_at, row_at, row_count}
use Rattle.glk_keys.specs.Targets.{IsRowOf, row_among, builtin_referent, package_referent, package_of_entry, referent_of, target_by, target_of}
use Rattle.glk_keys.specs.declared.target.Referent.{Referent}
use Rattle.glk_keys.specs.declared.target.Referent.TheVariants as means
use Rattle.glk_keys.specs.Rows.{builtin_row}
use Rattle.glk_merge.proofs.PollLaws.{is_key}
use Rattle.glk_merge.proofs.RowBounds.{definition_object}
use Rattle.glk_merge.specs.Mergings.{IsDefinitionRow}
use Rattle.glk_readings.specs.References.{reference_at, refers_at}
use Rattle.glk_readings.specs.Symbols.{IsWithin}
use Rattle.glk_readings.specs.declared.symbols.Relocation.{Relocation}
use Rattle.glk_reach.specs.Chosen.{target_symbol, relocation_of}

module _ (p : Program) where
  either_row : (b : Bool) (x y : Referent) → IsRowOf p x → IsRowOf p y → IsRowOf p (if b then x else y)
  either_row true x y hx hy = hx
  either_row false x y hx hy = hy

  among_within : (n : ℕ) (range : SymbolRange) (index : ℕ) → n < length (objects_of p.world) → range.first + range.size ≤ symbols (object_at p n) → IsRowOf p (row_among p n range index)
  unfolding row_among
  among_within n range index h room = elim (cases_lt index range.size) [
    | inl m ↦ rw (lt_true index range.size m) (row_within p n (range.first + index) h (omega arith))
    | inr g ↦ rw (lt_false index range.size g) tt
  ]

  builtin_within : (index : ℕ) → IsRowOf p (builtin_referent p index)
  unfolding builtin_referent builtin_row
  builtin_within index = elim (cases_lt index (length p.builtins)) [
    | inl m ↦ rw (lt_true index (length p.builtins) m) (let all = all_rows p in let own = own_count p in omega arith)
    | inr g ↦ rw (lt_false index (length p.builtins) g) tt
  ]

  package_within : (q : Option ℕ) (index : ℕ) → IsRowOf p (package_referent p q index)
  package_within None index = tt
  package_within (Some q) index = elim (cases_lt 0 (object_count p.world q)) [
    | inl m ↦
        rw (lt_true 0 (object_count p.world q) m)
        (among_within (first_object p.world q) (symdef_symbols (object_at p (first_object p.world q))) index (first_inside p.world q m) (omega arith))
    | inr g ↦ rw (lt_false 0 (object_count p.world q) g) tt
  ]

  referent_within : (n : ℕ) (ref : SymbolRef) → n < length (objects_of p.world) → IsRowOf p (referent_of p n ref)
  unfolding referent_of
  referent_within n ref h =
      let b : List ℕ = object_at p n in
      let last : Referent = package_referent p (package_of_entry p n ref.pkg) ref.sym in
      let other : Referent = if ref.pkg == builtin_package then builtin_referent p ref.sym else last in
      let own : Referent = if ref.pkg == self_package then row_among p n (symdef_symbols b) ref.sym else other in
      let long : Referent = if ref.pkg == hashed_package then row_among p n (hashed_symbols b) ref.sym else own in
      let short : Referent = if ref.pkg == hashed64_package then row_among p n (hashed64_symbols b) ref.sym else long in
      let named : Referent = if ref.pkg == none_package then row_among p n (unpackaged_symbols b) ref.sym else short in
      either_row (ref.pkg == nil_package) (if ref.sym == 0 then means.Nothing else means.Missing) named (either_row (ref.sym == 0) means.Nothing means.Missing tt tt)
      (either_row (ref.pkg == none_package) (row_among p n (unpackaged_symbols b) ref.sym) short (among_within n (unpackaged_symbols b) ref.sym h (omega arith))
      (either_row (ref.pkg == hashed64_package) (row_among p n (hashed64_symbols b) ref.sym) long (among_within n (hashed64_symbols b) ref.sym h (omega arith))
      (either_row (ref.pkg == hashed_package) (row_among p n (hashed_symbols b) ref.sym) own (among_within n (hashed_symbols b) ref.sym h (omega arith))
      (either_row (ref.pkg == self_package) (row_among p n (symdef_symbols b) ref.sym) other (among_within n (symdef_symbols b) ref.sym h (omega arith))
      (either_row (ref.pkg == builtin_package) (builtin_referent p ref.sym) last (builtin_within ref.sym) (package_within (package_of_entry p n ref.pkg) ref.sym))))))

  symbol_within : (ref : SymbolRef) (x : Referent) → IsRowOf p x → IsWithin (row_count p) (target_symbol (target_by p ref x))
  symbol_within ref means.Nothing h = tt
  symbol_within ref (means.Row r) h = (is_key p r.0 h).row
  symbol_within ref means.Missing h = tt

  target_within : (n : ℕ) (ref : SymbolRef) → n < length (objects_of p.world) → IsWithin (row_count p) (target_symbol (target_of p n ref))
  unfolding target_of
  target_within n ref h = symbol_within ref (referent_of p n ref) (referent_within n ref h)

  module _ (r : ℕ) (definition : IsDefinitionRow p r) where
    abbrev HasKey : Relocation → Type 0
    HasKey reloc = IsWithin (row_count p) reloc.target

    reloc_within : (reloc : Reloc) → HasKey (relocation_of p r reloc)
    reloc_within reloc = target_within (row_at p r).object reloc.target (definition_object p r definition)

    pub nth_within : (relocs : List Reloc) (i : ℕ) (found : Relocation) → slice_get (map (relocation_of p r) relocs) i ≡ Some found → HasKey found
    nth_within [] i found e = absurd (let bad : None ≡ Some found = e in cc)
    nth_within (reloc ∷ later) zero found e =
        let P : Option Relocation → Type 0 = λ o. IfSome o HasKey in
        subst P e (reloc_within reloc)
    nth_within (reloc ∷ later) (suc i) found e = nth_within later i found e

    kept : (b : Bool) (reloc : Relocation) (later : Option Relocation) → HasKey reloc → IfSome later HasKey → IfSome (cond b (Some reloc) later) HasKey
    kept true reloc later here there = here
    kept false reloc later here there = there

    pub found_within : (relocs : List Reloc) (offset : ℕ) → IfSome (reference_at (map (relocation_of p r) relocs) offset) HasKey
    unfolding reference_at
    found_within [] offset = tt
    found_within (reloc ∷ later) offset =
        kept (refers_at offset (relocation_of p r reloc)) (relocation_of p r reloc) (reference_at (map (relocation_of p r) later) offset)
        (reloc_within reloc) (found_within later offset)

pub none_at : (offset : ℕ) → reference_at [] offset ≡ None
unfolding reference_at
none_at offset = refl
