-- Bytes are an object, or break a rule first.
use Rattle.std.proofs.Common.{◌≡◌, ◌+◌, ◌-◌, ◌*◌, ◌%◌, ◌<◌, ◌≤◌, ◌==◌, ◌^◌, ◌⊎◌, inl, inr, ℕ, List, length, arith, subst, sym, slice_index_or, if◌then◌else◌}
use Rattle.std.specs.List.{starts_with}
use Rattle.std.specs.Prelude.{nat_eq, bit_and}
use Rattle.std.proofs.lemmas.Bool.{cases_eq}
use Rattle.glk_base.specs.Bytes.{number_at}
use Rattle.glk_base.specs.Least.{BadRecord, InSomeGroup}
use Rattle.glk_base.specs.Rules.{IsIntact, FirstBroken}
use Rattle.glk_obj.specs.Blocks.{magic, header_offset, header_length, flags_offset, offset_of, extent_of, width_of, count, hashed64def, hasheddef, hash64, hash, reloc_idx, data_idx, reloc, ref_flags, aux, ref_name, nonpkgref, end}
use Rattle.glk_obj.specs.Records.{symbols, definitions, flags, symbol_at, symbol_offset, entry_offset, entry_at, data_length, reloc_count, reloc_offset, reloc_at, text_at, ref_at}
use Rattle.glk_obj.specs.References.{PassesEnd, HoldsNul, in_range, IsOutOfRangeAt}
use Rattle.glk_obj.specs.Fields.{HasField, field_offset, shift_of}
use Rattle.glk_obj.specs.Object.{IsObject}
use Rattle.glk_obj.specs.Rules.{IsShort, HasOtherMagic, IsMisplaced, HasMisplacedBlock, EndsLate, IsUneven, HasUnevenBlock, unlinkable_bit, IsUnlinkable, HasOddHash64, shortest_hash, longest_hash, HashesFit, HasOddHash, IsTable, pointed_block, HasShortTable, IsBadEntry, TableFault, HasBadEntry, HasStringPastEnd, HasStringWithNul, HasTargetOutOfRange, HasContent, HasExcessData, HasLongData, IsFieldOutside, IsStray, RelocFault, HasStrayReloc, IsAlign, IsOddlyAligned, HasOddAlign, Breaks}
use Rattle.glk_obj.proofs.Objects.{object}
use Rattle.glk_package.proofs.Decided.{IsDecided, all_of, one_of, negated, below, at_most, is_false, if_same, matched, some_below, HasLeast, same_least, least_at, least_match, least_record, least_group, first_rule}

misplaced : (b : List ℕ) (k : ℕ) → IsDecided (IsMisplaced b k)
misplaced b k = one_of _ _ (below (offset_of b k) header_length) (all_of _ _ (below 0 k) (below (offset_of b k) (offset_of b (k - 1))))

uneven : (b : List ℕ) (k : ℕ) → IsDecided (IsUneven b k)
uneven b k = all_of _ _ (negated _ (cases_eq k hash)) (negated _ (cases_eq (extent_of b k % width_of k) 0))

-- a width of at most 64 bytes
widths : (b : List ℕ) → IsDecided ((n : ℕ) × (shortest_hash ≤ n) × (n ≤ longest_hash) × (extent_of b hash ≡ n * count b hasheddef))
widths b = if_same _ _
    (λ h. (h.0, h.2.0, omega (arith, h.1), h.2.1))
    (λ h. (h.0, omega (arith, h.2), (h.1, h.3)))
    (some_below (longest_hash + 1) (λ n. (shortest_hash ≤ n) × (extent_of b hash ≡ n * count b hasheddef))
    (λ n. all_of _ _ (at_most shortest_hash n) (cases_eq (extent_of b hash) (n * count b hasheddef))))

hashes_fit : (b : List ℕ) → IsDecided (HashesFit b)
hashes_fit b = matched (count b hasheddef == 0) _ _ (cases_eq (extent_of b hash) 0) (widths b)

is_table : (t : ℕ) → IsDecided (IsTable t)
is_table t = all_of _ _ (at_most reloc_idx t) (at_most t data_idx)

bad_entry : (b : List ℕ) (t i : ℕ) → IsDecided (IsBadEntry b t i)
unfolding IsBadEntry
bad_entry b t i = one_of _ _
    (all_of _ _ (below 0 i) (below (entry_at b t i) (entry_at b t (i - 1))))
    (all_of _ _ (cases_eq (i + 1) (count b t)) (below (count b (pointed_block t)) (entry_at b t i)))

passes_end : (b : List ℕ) (at : ℕ) → IsDecided (PassesEnd b at)
unfolding PassesEnd
passes_end b at = below (length b) (number_at 4 b (at + 4) + number_at 4 b at)

holds_nul : (b : List ℕ) (at : ℕ) → IsDecided (HoldsNul b at)
unfolding HoldsNul
holds_nul b at = some_below (length (text_at b at)) (λ k. slice_index_or (text_at b at) k 0 ≡ 0) (λ k. cases_eq (slice_index_or (text_at b at) k 0) 0)

out_of_range : (b : List ℕ) (at : ℕ) → IsDecided (IsOutOfRangeAt b at)
unfolding IsOutOfRangeAt
out_of_range b at = is_false (in_range b (ref_at b at))

-- a field of the records of some blocks, this far into them, is bad
abbrev IsBadField : List ℕ → (ℕ → Type 0) → (ℕ → ℕ) → (ℕ → Type 0) → ℕ → Type 0
IsBadField b In shift Bad =
    InSomeGroup In (λ t. BadRecord (count b t) (λ i. offset_of b t + width_of t * i + shift t) (λ i. Bad (offset_of b t + width_of t * i + shift t)))

bad_field : (b : List ℕ) (In : ℕ → Type 0) (shift : ℕ → ℕ) (Bad : ℕ → Type 0) → ((t : ℕ) → IsDecided (In t)) → ((t : ℕ) → In t → t < end) → ((at : ℕ) → IsDecided (Bad at)) → HasLeast (IsBadField b In shift Bad)
bad_field b In shift Bad in_one bound each =
    least_group end In (λ t. BadRecord (count b t) (λ i. offset_of b t + width_of t * i + shift t) (λ i. Bad (offset_of b t + width_of t * i + shift t))) in_one
    (λ t. least_record (count b t) (λ i. offset_of b t + width_of t * i + shift t) (λ i. Bad (offset_of b t + width_of t * i + shift t)) (λ i. each (offset_of b t + width_of t * i + shift t)))
    bound

-- the strings
abbrev HasString : ℕ → Type 0
HasString t = (t ≤ nonpkgref) ⊎ (t ≡ ref_name)

abbrev string_shift : ℕ → ℕ
string_shift t = if t == ref_name then 8 else 0

has_string : (t : ℕ) → IsDecided (HasString t)
has_string t = one_of _ _ (at_most t nonpkgref) (cases_eq t ref_name)

string_below : (t : ℕ) → HasString t → t < end
string_below t (inl low) = omega arith
string_below t (inr is) = omega arith

past_end : (b : List ℕ) → HasLeast (HasStringPastEnd b)
unfolding HasField field_offset shift_of
past_end b = same_least (IsBadField b HasString string_shift (PassesEnd b)) (HasStringPastEnd b)
    (λ k h. record {
      is_field = record { block = h.group; among = h.among; index = h.fault.index; inside = h.fault.inside; at = h.fault.at };
      bad = subst (PassesEnd b) (sym h.fault.at) h.fault.bad;
    })
    (λ k h. record {
      group = h.is_field.block;
      among = h.is_field.among;
      fault = record { index = h.is_field.index; inside = h.is_field.inside; at = h.is_field.at; bad = subst (PassesEnd b) h.is_field.at h.bad };
    })
    (bad_field b HasString string_shift (PassesEnd b) has_string string_below (passes_end b))

with_nul : (b : List ℕ) → HasLeast (HasStringWithNul b)
unfolding HasField field_offset shift_of
with_nul b = same_least (IsBadField b HasString string_shift (HoldsNul b)) (HasStringWithNul b)
    (λ k h. record {
      is_field = record { block = h.group; among = h.among; index = h.fault.index; inside = h.fault.inside; at = h.fault.at };
      bad = subst (HoldsNul b) (sym h.fault.at) h.fault.bad;
    })
    (λ k h. record {
      group = h.is_field.block;
      among = h.is_field.among;
      fault = record { index = h.is_field.index; inside = h.is_field.inside; at = h.is_field.at; bad = subst (HoldsNul b) h.is_field.at h.bad };
    })
    (bad_field b HasString string_shift (HoldsNul b) has_string string_below (holds_nul b))

-- the references
abbrev HasTarget : ℕ → Type 0
HasTarget t = ((t ≡ ref_flags) ⊎ (t ≡ reloc)) ⊎ ((t ≡ aux) ⊎ (t ≡ ref_name))

abbrev target_shift : ℕ → ℕ
target_shift t = if t == reloc then 15 else (if t == aux then 1 else 0)

has_target : (t : ℕ) → IsDecided (HasTarget t)
has_target t = one_of _ _ (one_of _ _ (cases_eq t ref_flags) (cases_eq t reloc)) (one_of _ _ (cases_eq t aux) (cases_eq t ref_name))

target_below : (t : ℕ) → HasTarget t → t < end
target_below t (inl (inl is)) = omega arith
target_below t (inl (inr is)) = omega arith
target_below t (inr (inl is)) = omega arith
target_below t (inr (inr is)) = omega arith

target_out : (b : List ℕ) → HasLeast (HasTargetOutOfRange b)
unfolding HasField field_offset shift_of
target_out b = same_least (IsBadField b HasTarget target_shift (IsOutOfRangeAt b)) (HasTargetOutOfRange b)
    (λ k h. record {
      is_field = record { block = h.group; among = h.among; index = h.fault.index; inside = h.fault.inside; at = h.fault.at };
      bad = subst (IsOutOfRangeAt b) (sym h.fault.at) h.fault.bad;
    })
    (λ k h. record {
      group = h.is_field.block;
      among = h.is_field.among;
      fault = record { index = h.is_field.index; inside = h.is_field.inside; at = h.is_field.at; bad = subst (IsOutOfRangeAt b) h.is_field.at h.bad };
    })
    (bad_field b HasTarget target_shift (IsOutOfRangeAt b) has_target target_below (out_of_range b))

has_content : (b : List ℕ) (i : ℕ) → IsDecided (HasContent b i)
unfolding HasContent
has_content b i = all_of _ _ (at_most 1 (symbol_at b i).kind) (at_most (symbol_at b i).kind 7)

excess_data : (b : List ℕ) (i : ℕ) → IsDecided (HasExcessData b i)
unfolding HasExcessData
excess_data b i = all_of _ _ (has_content b i) (below (symbol_at b i).size (data_length b i))

field_outside : (b : List ℕ) (i k : ℕ) → IsDecided (IsFieldOutside b i k)
unfolding IsFieldOutside
field_outside b i k = one_of _ _
    (at_most (2 ^ 31) (number_at 4 b (reloc_offset b i k)))
    (below (symbol_at b i).size (number_at 4 b (reloc_offset b i k) + (reloc_at b i k).size))

is_align : (a : ℕ) → IsDecided (IsAlign a)
is_align a = one_of _ _ (cases_eq a 0) (if_same ((e : ℕ) × (e < 13) × (a ≡ 2 ^ e)) ((e : ℕ) × (e ≤ 12) × (a ≡ 2 ^ e))
    (λ h. (h.0, omega (arith, h.1), h.2)) (λ h. (h.0, omega (arith, h.1), h.2)) (some_below 13 (λ e. a ≡ 2 ^ e) (λ e. cases_eq a (2 ^ e))))

oddly_aligned : (b : List ℕ) (i : ℕ) → IsDecided (IsOddlyAligned b i)
unfolding IsOddlyAligned
oddly_aligned b i = all_of _ _ (has_content b i) (negated _ (is_align (symbol_at b i).align))

-- Each rule is broken somewhere first, or nowhere.

tables : (b : List ℕ) (Fault : ℕ → ℕ → Type 0) → ((t : ℕ) → HasLeast (Fault t)) → HasLeast (InSomeGroup IsTable Fault)
tables b Fault each = least_group end IsTable Fault is_table each (λ t h. omega (arith, h.1))

relocs : (b : List ℕ) → HasLeast (HasStrayReloc b)
relocs b = least_group (definitions b) (λ i. i < definitions b) (RelocFault b) (λ i. below i (definitions b))
    (λ i. least_record (reloc_count b i) (reloc_offset b i) (IsStray b i) (λ k. all_of _ _ (has_content b i) (field_outside b i k))) (λ i h. h)

each_rule : (b : List ℕ) (rule : ℕ) → HasLeast (Breaks b rule)
each_rule b rule =
    least_match (rule == 1) (IsShort b) _ (least_at (length b < header_length) (length b) (below (length b) header_length))
    (least_match (rule == 2) (HasOtherMagic b) _ (least_at _ 0 (is_false (starts_with nat_eq b magic)))
    (least_match (rule == 3) (HasMisplacedBlock b) _ (least_record (end + 1) header_offset (IsMisplaced b) (misplaced b))
    (least_match (rule == 4) (EndsLate b) _ (least_at _ (header_offset end) (below (length b) (offset_of b end)))
    (least_match (rule == 5) (HasUnevenBlock b) _ (least_record end header_offset (IsUneven b) (uneven b))
    (least_match (rule == 6) (IsUnlinkable b) _ (least_at _ flags_offset (negated _ (cases_eq (bit_and (flags b) (2 ^ unlinkable_bit)) 0)))
    (least_match (rule == 7) (HasOddHash64 b) _ (least_at _ (header_offset hash64) (negated _ (cases_eq (count b hash64) (count b hashed64def))))
    (least_match (rule == 8) (HasOddHash b) _ (least_at _ (header_offset hash) (negated _ (hashes_fit b)))
    (least_match (rule == 9) (HasShortTable b) _
    (tables b (λ t offset. ((count b t ≡ definitions b + 1) → ⊥) × (offset ≡ header_offset t)) (λ t. least_at _ (header_offset t) (negated _ (cases_eq (count b t) (definitions b + 1)))))
    (least_match (rule == 10) (HasBadEntry b) _ (tables b (TableFault b) (λ t. least_record (count b t) (entry_offset b t) (IsBadEntry b t) (bad_entry b t)))
    (least_match (rule == 11) (HasStringPastEnd b) _ (past_end b)
    (least_match (rule == 12) (HasStringWithNul b) _ (with_nul b)
    (least_match (rule == 13) (HasTargetOutOfRange b) _ (target_out b)
    (least_match (rule == 14) (HasLongData b) _ (least_record (definitions b) (symbol_offset b) (HasExcessData b) (excess_data b))
    (least_match (rule == 15) (HasStrayReloc b) _ (relocs b)
    (least_match (rule == 16) (HasOddAlign b) (λ k. ⊥) (least_record (symbols b) (symbol_offset b) (IsOddlyAligned b) (oddly_aligned b)) (inr (λ k h. h)))))))))))))))))

-- the first broken rule of these bytes, or they are an object
pub object_or_fault : (b : List ℕ) → ((rule : ℕ) × (offset : ℕ) × FirstBroken (Breaks b) rule offset) ⊎ IsObject b
object_or_fault b = whole (first_rule (Breaks b) (each_rule b) 16)
  where
    whole : ((rule : ℕ) × (offset : ℕ) × FirstBroken (Breaks b) rule offset) ⊎ IsIntact (Breaks b) 16
        → ((rule : ℕ) × (offset : ℕ) × FirstBroken (Breaks b) rule offset) ⊎ IsObject b
    whole (inl found) = inl found
    whole (inr intact) = inr (object b intact)
