-- Which types are turned into an interface, by the marks of the compiler.
use Rattle.std.specs.Prelude.{ℕ, ◌==◌, ◌&&◌, ◌||◌, Bool, false, length}
use Rattle.std.specs.List.{list_any, range_with_len}
use Rattle.glk_obj.specs.Blocks.{count, ref_flags}
use Rattle.glk_obj.specs.Flags.{is_used_in_iface, marks_used_in_iface}
use Rattle.glk_obj.specs.Records.{RefFlag, ref_flags_at}
use Rattle.glk_arena.specs.World.{objects_of}
use Rattle.glk_keys.specs.declared.target.Target.{Target}
use Rattle.glk_keys.specs.declared.target.Target.TheVariants as means
use Rattle.glk_keys.specs.Definitions.{definitions_of}
use Rattle.glk_keys.specs.Programs.{Program}
use Rattle.glk_keys.specs.Rows.{object_at, row_at}
use Rattle.glk_keys.specs.Targets.{target_of}

-- the target is key k
abbrev pub is_key : ℕ → Target → Bool
is_key k means.Nothing = false
is_key k (means.Key key) = key.0 == k
is_key k (means.Missing pkg index) = false

-- a record of RefFlags in object n marks key k
abbrev pub marks : Program → ℕ → ℕ → RefFlag → Bool
marks p k n flags = marks_used_in_iface flags && is_key k (target_of p n flags.target)

-- some record of RefFlags in object n does
abbrev pub is_marked_in : Program → ℕ → ℕ → Bool
is_marked_in p k n = list_any (λ i. marks p k n (ref_flags_at (object_at p n) i)) (range_with_len 0 (count (object_at p n) ref_flags))

-- Key k is a type that is turned into an interface: one of its definitions says so, also one that is passed over, or a record of
-- RefFlags in some object does. What a reference by name says of it does not count.
unfoldable pub iface_flag : Program → ℕ → Bool
iface_flag p k =
    list_any (λ r. is_used_in_iface (row_at p r).symbol) (definitions_of p k)
    || list_any (is_marked_in p k) (range_with_len 0 (length (objects_of p.world)))
