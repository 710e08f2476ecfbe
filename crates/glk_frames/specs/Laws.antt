-- What is promised of frames and buckets.
use Rattle.std.specs.Prelude.{ℕ, ◌≡◌, ◌+◌, ◌-◌, ◌^◌, ◌<◌, ◌≤◌, List, ◌∷◌, ℤ}
use Rattle.glk_base.specs.BytesAt.{IsAt}
use Rattle.glk_frames.specs.Memory.{read_in}
use Rattle.glk_frames.specs.Object.{Func, frames_of, depth_of}
use Rattle.glk_frames.specs.Region.{function_count, start_of, found_in}
use Rattle.glk_frames.specs.Image.{Module, frames_in, depth_in}
use Rattle.glk_frames.specs.Written.{Record, IsWritten}
use Rattle.glk_frames.specs.Buckets.{AreApart, AreStarts, findfunctab, index_at, bucket_found}

-- function i of the image has the frames and the depth of the object's function, at every offset
pub record ReadsBack (m : Module) (i : ℕ) (f : Func) : Type 0 where
  pub frames : (off : ℤ) → frames_in m i off ≡ frames_of f off
  pub depth : (off : ℤ) → depth_in m.region i off ≡ depth_of f off

abbrev pub FramesReadBack : Type 0
FramesReadBack = (m : Module) (i : ℕ) (f : Func) (x : Record) → IsWritten m i f x → ReadsBack m i f

-- The buckets are in memory, over the starts that the region has: the first at 0, each at least 16 above the one
-- before, and the last entry is the text's size.
pub record HasBuckets (r : List ℕ) (bytes : List ℕ) (at : ℕ) (size : ℕ) : Type 0 where
  pub starts : AreStarts (start_of r) (function_count r) size
  pub first : start_of r 0 ≡ 0
  pub few : function_count r < 2 ^ 32
  pub is_at : IsAt bytes at (findfunctab (start_of r) (function_count r) size)

abbrev pub BucketsFind : Type 0
BucketsFind =
    (r : List ℕ) (address : ℕ) (bytes : List ℕ) (others : List (ℕ × List ℕ)) (at size : ℕ) → HasBuckets r bytes at size
    → (off : ℕ) → bucket_found r (read_in ((address, bytes) ∷ others)) (address + at) off ≡ found_in r off

-- within a bucket, of 16 parts that are 256 bytes apart, an index is at most 240 greater than the first
abbrev pub PartsFit : Type 0
PartsFit = (start : ℕ → ℕ) (n a b : ℕ) → AreApart start n → b ≤ a + 3840 → index_at start n b - index_at start n a ≤ 240
