-- Offsets with the same values show the same.
use Rattle.std.proofs.Common.{◌≡◌, ◌∙◌, ap, ℕ, zero, suc, ◌+◌, ◌-◌, ◌^◌, ◌≤◌, List, None, Some, Option, ℤ, pos, ◌-ℤ◌, refl, sym, arith}
use Rattle.std.proofs.lemmas.Int.{ints}
use Rattle.glk_pcval.specs.Laws.{NoneBeyond}
use Rattle.glk_pcval.specs.Table.{value_of}
use Rattle.glk_frames.specs.Chain.{Frame, chain, most_frames}
use Rattle.glk_frames.specs.Image.{Module, inline_index, file_in, line_in, frame_in, step_in, frames_in}
use Rattle.glk_frames.specs.Region.{record_offset}
use Rattle.glk_frames_reader.specs.Opening.{FileModule, image_of}
use Rattle.glk_frames_reader.specs.Found.{function_of, offset_in, frames_at}
use Rattle.glk_frames_reader.specs.Parts.{SameValues, HasFunction}

pub same_index : (r : List ℕ) (at : ℕ) (a b : ℤ) → SameValues a b → inline_index r at a ≡ inline_index r at b
unfolding inline_index
same_index r at a b same = simp same

pub same_file : (r : List ℕ) (at : ℕ) (a b : ℤ) → SameValues a b → file_in r at a ≡ file_in r at b
unfolding file_in
same_file r at a b same = simp same

pub same_line : (r : List ℕ) (at : ℕ) (a b : ℤ) → SameValues a b → line_in r at a ≡ line_in r at b
unfolding line_in
same_line r at a b same = simp same

same_frame : (r : List ℕ) (at : ℕ) (a b : ℤ) (node : Option (ℕ × ℤ)) → SameValues a b → frame_in r at a node ≡ frame_in r at b node
same_frame r at a b None same = rw (same_file r at a b same, same_line r at a b same) refl
same_frame r at a b (Some node) same = rw (same_file r at a b same, same_line r at a b same) refl

pub same_step : (m : Module) (at : ℕ) (a b : ℤ) → SameValues a b → step_in m at a ≡ step_in m at b
unfolding step_in
same_step m at a b same = rw (same_index m.region at a b same) (same_frame m.region at a b _ same)

pub same_chain : (step : ℤ → Frame × Option ℤ) (n : ℕ) (a b : ℤ) → step a ≡ step b → chain step n (Some a) ≡ chain step n (Some b)
unfolding chain
same_chain step zero a b same = refl
same_chain step (suc n) a b same = rw same refl

-- at no distance from 2^32 on is there a value
pub none_from : NoneBeyond → (a b : ℕ) → b + 2 ^ 32 ≤ a → (table : List ℕ) → ◌≡◌ {A = Option ℤ} None (value_of table (pos a -ℤ pos b))
none_from beyond a b far table =
    let e : pos a -ℤ pos b ≡ pos (a - b) = omega (arith, ints) in
    rw e (sym (beyond table (a - b) (omega arith)))

-- the frames from an offset with the same values are those at the address
pub frames_start : (m : FileModule) (r : List ℕ) (index at : ℕ) (off : ℤ) (pc : ℕ) → HasFunction m r index at → SameValues off (offset_in (function_of m index) pc)
    → chain (step_in (image_of m) at) most_frames (Some off) ≡ frames_at (function_of m index) pc
unfolding frames_at frames_in
frames_start m r index at off pc has same =
    let place : at ≡ record_offset m.region index = has.is ∙ ap (λ (s : List ℕ). record_offset s index) has.placed.same in
    let there = same_chain (step_in (image_of m) at) most_frames off (offset_in (function_of m index) pc) (same_step (image_of m) at off (offset_in (function_of m index) pc) same) in
    there ∙ ap (λ (k : ℕ). chain (step_in (image_of m) k) most_frames (Some (offset_in (function_of m index) pc))) place
