-- What the kinds of relocations mean for reachability.
use Rattle.std.specs.Prelude.{ℕ, ◌==◌, ◌||◌, Bool, true, false, Option}
use Rattle.std.specs.Option.{option_map_or}
use Rattle.glk_obj.specs.Numbers.{index_of}
use Rattle.glk_obj.specs.declared.kinds.RelocKind.{RelocKind}
use Rattle.glk_obj.specs.declared.kinds.RelocKind.TheVariants.{Addr, Call, PcRel, AddrOff, MethodOff, TlsLe, UseIface, UseIfaceMethod, UseNamedMethod, UseType, InitOrder, CallInd, Keep, Ignore}

-- a relocation is of this kind; one whose number has no kind is of none
abbrev pub is_kind : RelocKind → Option RelocKind → Bool
is_kind kind found = option_map_or (λ other. index_of kind == index_of other) found false

-- the kinds by which a symbol refers to another and needs it
abbrev pub is_plain_kind : RelocKind → Bool
is_plain_kind Addr = true
is_plain_kind Call = true
is_plain_kind PcRel = true
is_plain_kind AddrOff = true
is_plain_kind MethodOff = false
is_plain_kind TlsLe = true
is_plain_kind UseIface = false
is_plain_kind UseIfaceMethod = false
is_plain_kind UseNamedMethod = false
is_plain_kind UseType = false
is_plain_kind InitOrder = false
is_plain_kind CallInd = false
is_plain_kind Keep = true
is_plain_kind Ignore = false

-- the kinds that write bytes
abbrev pub is_field_kind : RelocKind → Bool
is_field_kind Addr = true
is_field_kind Call = true
is_field_kind PcRel = true
is_field_kind AddrOff = true
is_field_kind MethodOff = true
is_field_kind TlsLe = true
is_field_kind UseIface = false
is_field_kind UseIfaceMethod = false
is_field_kind UseNamedMethod = false
is_field_kind UseType = false
is_field_kind InitOrder = false
is_field_kind CallInd = false
is_field_kind Keep = false
is_field_kind Ignore = false

-- the kinds that may be without a target
abbrev pub needs_no_target : RelocKind → Bool
needs_no_target Addr = false
needs_no_target Call = false
needs_no_target PcRel = false
needs_no_target AddrOff = false
needs_no_target MethodOff = false
needs_no_target TlsLe = true
needs_no_target UseIface = false
needs_no_target UseIfaceMethod = false
needs_no_target UseNamedMethod = false
needs_no_target UseType = false
needs_no_target InitOrder = false
needs_no_target CallInd = true
needs_no_target Keep = false
needs_no_target Ignore = true

-- the sizes of the fields of a kind, in bytes; a kind without a field may have any
abbrev pub may_have_size : RelocKind → ℕ → Bool
may_have_size Addr size = (size == 4) || (size == 8)
may_have_size Call size = size == 4
may_have_size PcRel size = size == 4
may_have_size AddrOff size = size == 4
may_have_size MethodOff size = size == 4
may_have_size TlsLe size = size == 4
may_have_size UseIface size = true
may_have_size UseIfaceMethod size = true
may_have_size UseNamedMethod size = true
may_have_size UseType size = true
may_have_size InitOrder size = true
may_have_size CallInd size = true
may_have_size Keep size = true
may_have_size Ignore size = true
