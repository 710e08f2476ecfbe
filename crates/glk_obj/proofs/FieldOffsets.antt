-- The offsets of the fields of records.
use Rattle.std.proofs.Common.{◌≢◌, ◌+◌, ◌*◌, ◌<◌, ◌≤◌, ℕ, List, length, arith, subst, sym}
use Rattle.std.proofs.Math.Nat.{mul-le-mul_left}
use Rattle.glk_obj.specs.declared.fields.Field.{Field}
use Rattle.glk_obj.specs.declared.fields.Field.TheVariants.{Text, Target}
use Rattle.glk_base.specs.Least.{IsLeast, InSomeGroup}
use Rattle.glk_obj.specs.Blocks.{offset_of, count, width_of, hash, end}
use Rattle.glk_obj.specs.Layout.{HasLayout}
use Rattle.glk_obj.specs.Fields.{HasField, shift_of, field_offset, FailsAt, FailsIn}
use Rattle.glk_obj.proofs.BlockOrder.{record_room}
use Rattle.glk_obj.proofs.LeastOffsets.{LiesWithin, NoneBelow, first_block}

pub field_block : (field : Field) (t : ℕ) → HasField field t → (t < end) × (t ≢ hash)
unfolding HasField
field_block Text t has = (grind arith, λ e. grind arith)
field_block Target t has = (grind arith, λ e. grind arith)

-- a field takes eight bytes of its record
pub width-field : (field : Field) (t : ℕ) → HasField field t → shift_of field t + 8 ≤ width_of t
unfolding HasField width_of shift_of
width-field Text t has = grind arith
width-field Target t has = grind arith

pub field_room : (b : List ℕ) (field : Field) (t i : ℕ) → HasLayout b → HasField field t → i < count b t → (offset_of b t ≤ field_offset b field t i) × (field_offset b field t i + 8 ≤ offset_of b (t + 1))
unfolding field_offset
field_room b field t i layout has index =
    let k : (t < end) × (t ≢ hash) = field_block field t has in
    let r : offset_of b t + width_of t * i + width_of t ≤ offset_of b (t + 1) = record_room b t i layout k.0 k.1 index in
    let w : shift_of field t + 8 ≤ width_of t = width-field field t has in
    (omega arith, omega arith)

pub field-rises : (b : List ℕ) (field : Field) (t j k : ℕ) → j ≤ k → field_offset b field t j ≤ field_offset b field t k
unfolding field_offset
field-rises b field t j k below =
    let m : width_of t * j ≤ width_of t * k = mul-le-mul_left (width_of t) below in omega arith

-- faults of fields lie in their blocks
pub fields_lie : (b : List ℕ) (field : Field) (Bad : ℕ → Type 0) → HasLayout b → LiesWithin b (HasField field) (FailsIn b field Bad)
fields_lie b field Bad layout = record {
  block = λ t has. (field_block field t has).0;
  from = λ t p has fault. let r : (offset_of b t ≤ field_offset b field t fault.index) × (field_offset b field t fault.index + 8 ≤ offset_of b (t + 1)) = field_room b field t fault.index layout has fault.inside in omega (arith, fault.at);
  to = λ t p has fault. let r : (offset_of b t ≤ field_offset b field t fault.index) × (field_offset b field t fault.index + 8 ≤ offset_of b (t + 1)) = field_room b field t fault.index layout has fault.inside in omega (arith, fault.at);
}

-- The two ways to say where a field is bad: by block and record, and by its offset.
pub by_offset : (b : List ℕ) (field : Field) (Bad : ℕ → Type 0) (p : ℕ) → InSomeGroup (HasField field) (FailsIn b field Bad) p → FailsAt b field Bad p
by_offset b field Bad p fault = record {
  is_field = record { block = fault.group; among = fault.among; index = fault.fault.index; inside = fault.fault.inside; at = fault.fault.at };
  bad = subst Bad (sym fault.fault.at) fault.fault.bad;
}

pub by_record : (b : List ℕ) (field : Field) (Bad : ℕ → Type 0) (p : ℕ) → FailsAt b field Bad p → InSomeGroup (HasField field) (FailsIn b field Bad) p
by_record b field Bad p fails = record { group = fails.is_field.block; among = fails.is_field.among; fault = record { index = fails.is_field.index; inside = fails.is_field.inside; at = fails.is_field.at; bad = subst Bad fails.is_field.at fails.bad } }

pub least_by_offset : (b : List ℕ) (field : Field) (Bad : ℕ → Type 0) (p : ℕ) → IsLeast (InSomeGroup (HasField field) (FailsIn b field Bad)) p → IsLeast (FailsAt b field Bad) p
least_by_offset b field Bad p least = record { holds = by_offset b field Bad p least.holds; least = λ k fails. least.least k (by_record b field Bad k fails) }

-- Blocks before t have no bad field, and this is the first bad one in t: it is the first of all.
pub first_field : (b : List ℕ) (field : Field) (Bad : ℕ → Type 0) (t p : ℕ) → HasLayout b → HasField field t → NoneBelow (HasField field) (FailsIn b field Bad) t → IsLeast (FailsIn b field Bad t) p → IsLeast (FailsAt b field Bad) p
first_field b field Bad t p layout has before here =
    least_by_offset b field Bad p (first_block b (HasField field) (FailsIn b field Bad) t p layout (fields_lie b field Bad layout) has before here)

-- a field is in the file
pub field_inside : (b : List ℕ) (field : Field) (t i : ℕ) → HasLayout b → HasField field t → i < count b t → field_offset b field t i + 8 ≤ length b
field_inside b field t i layout has index =
    let room : (offset_of b t ≤ field_offset b field t i) × (field_offset b field t i + 8 ≤ offset_of b (t + 1)) = field_room b field t i layout has index in
    let inside : (t < end) × (t ≢ hash) = field_block field t has in
    let within : offset_of b (t + 1) ≤ length b = layout.within (t + 1) (omega (arith, inside.0)) in
    omega (arith, room.1)
