-- Fields have four bytes or eight, where no size is another than one of its kind.
use Rattle.std.proofs.Common.{◌≡◌, ◌<◌, ◌≤◌, ℕ, true, false, not, length, Option, Some, None, arith}
use Rattle.std.specs.Prelude.{◌==◌, ◌||◌}
use Rattle.std.specs.Option.{option_map_or}
use Rattle.std.proofs.lemmas.Bool.Decides.{nat_tests}
use Rattle.glk_keys.specs.Programs.{Program}
use Rattle.glk_keys.specs.Relocations.{reloc_kind}
use Rattle.glk_obj.specs.declared.kinds.RelocKind.{RelocKind}
use Rattle.glk_obj.specs.declared.kinds.RelocKind.TheVariants.{Addr, Call, PcRel, AddrOff, MethodOff, TlsLe, UseIface, UseIfaceMethod, UseNamedMethod, UseType, InitOrder, CallInd, Keep, Ignore}
use Rattle.glk_reach.specs.Chosen.{key_relocs}
use Rattle.glk_reach.specs.RelocFaults.{reloc_in, has_other_size}
use Rattle.glk_reach.specs.RelocKinds.{is_field_kind, may_have_size}
use Rattle.glk_faults.specs.Rules.{first_of}
use Rattle.glk_faults.specs.Taken.{AreSized}
use Rattle.glk_faults.proofs.Finds.{none_found}

four : (size : ℕ) → not (size == 4) ≡ false → (0 < size) × (size ≤ 8)
four size e = let is : size ≡ 4 = grind (arith, nat_tests, e) in (omega arith, omega arith)

four_or_eight : (size : ℕ) → not ((size == 4) || (size == 8)) ≡ false → (0 < size) × (size ≤ 8)
four_or_eight size e = (grind (arith, nat_tests, e), grind (arith, nat_tests, e))

by_kind : (kind : RelocKind) (size : ℕ) → is_field_kind kind ≡ true → not (may_have_size kind size) ≡ false → (0 < size) × (size ≤ 8)
by_kind Addr size f e = four_or_eight size e
by_kind Call size f e = four size e
by_kind PcRel size f e = four size e
by_kind AddrOff size f e = four size e
by_kind MethodOff size f e = four size e
by_kind TlsLe size f e = four size e
by_kind UseIface size f e = absurd (let bad : false ≡ true = f in cc)
by_kind UseIfaceMethod size f e = absurd (let bad : false ≡ true = f in cc)
by_kind UseNamedMethod size f e = absurd (let bad : false ≡ true = f in cc)
by_kind UseType size f e = absurd (let bad : false ≡ true = f in cc)
by_kind InitOrder size f e = absurd (let bad : false ≡ true = f in cc)
by_kind CallInd size f e = absurd (let bad : false ≡ true = f in cc)
by_kind Keep size f e = absurd (let bad : false ≡ true = f in cc)
by_kind Ignore size f e = absurd (let bad : false ≡ true = f in cc)

by_option : (kind : Option RelocKind) (size : ℕ) → option_map_or is_field_kind kind false ≡ true → option_map_or (λ x. not (may_have_size x size)) kind false ≡ false → (0 < size) × (size ≤ 8)
by_option (Some kind) size f e = by_kind kind size f e
by_option None size f e = absurd (let bad : false ≡ true = f in cc)

pub sized : (p : Program) (k : ℕ) → first_of p k (has_other_size p k) ≡ None → AreSized p k (length (key_relocs p k))
sized p k none i inside field =
    by_option (reloc_kind p (reloc_in p k i)) (reloc_in p k i).size field
    (none_found (has_other_size p k) (length (key_relocs p k)) none i inside)
