-- Where the blocks of an object with a layout lie.
use Rattle.std.proofs.Common.{◌≡◌, ◌≢◌, ◌+◌, ◌-◌, ◌*◌, ◌<◌, ◌≤◌, ℕ, List, length, arith, subst, zero, suc}
use Rattle.std.proofs.Math.Nat.{mul-le-mul_left}
use Rattle.glk_obj.specs.Blocks.{offset_of, width_of, count, entry_width, hash, end}
use Rattle.glk_obj.specs.Layout.{HasLayout}
use Rattle.glk_obj.specs.Rules.{IsTable}

mono_by : (b : List ℕ) (j d : ℕ) → HasLayout b → j + d ≤ end → offset_of b j ≤ offset_of b (j + d)
mono_by b j zero layout inside =
    let e : j ≡ j + 0 = omega arith in
    let P : ℕ → Type 0 = λ k. offset_of b j ≤ offset_of b k in subst P e (omega arith)
mono_by b j (suc d) layout inside =
    let step : offset_of b j ≤ offset_of b (j + d) = mono_by b j d layout (omega arith) in
    let next : offset_of b (j + d) ≤ offset_of b (j + d + 1) = layout.ordered (j + d) (omega arith) in
    let e : j + d + 1 ≡ j + suc d = omega arith in
    let P : ℕ → Type 0 = λ k. offset_of b j ≤ offset_of b k in subst P e (omega arith)

-- the blocks are in order
pub offset_mono : (b : List ℕ) (j k : ℕ) → HasLayout b → j ≤ k → k ≤ end → offset_of b j ≤ offset_of b k
offset_mono b j k layout below inside =
    let e : j + (k - j) ≡ k = omega arith in
    let P : ℕ → Type 0 = λ m. offset_of b j ≤ offset_of b m in subst P e (mono_by b j (k - j) layout (omega arith))

width-table : (t : ℕ) → IsTable t → width_of t ≡ entry_width
unfolding width_of
width-table t (low, high) = grind arith

-- a table's entries fill its block
pub table_whole : (b : List ℕ) (t : ℕ) → HasLayout b → IsTable t → offset_of b (t + 1) ≡ offset_of b t + entry_width * count b t
table_whole b t layout table =
    let P : ℕ → Type 0 = λ w. offset_of b (t + 1) ≡ offset_of b t + w * count b t in
    subst P (width-table t table) (layout.whole t (omega (arith, table.1)) (omega (arith, table.0)))

-- they are in the file
pub table_room : (b : List ℕ) (t : ℕ) → HasLayout b → IsTable t → offset_of b t + entry_width * count b t ≤ length b
table_room b t layout table =
    let whole : offset_of b (t + 1) ≡ offset_of b t + entry_width * count b t = table_whole b t layout table in
    let within : offset_of b (t + 1) ≤ length b = layout.within (t + 1) (omega (arith, table.1)) in
    omega arith

-- a record lies in its block
pub record_room : (b : List ℕ) (k i : ℕ) → HasLayout b → k < end → k ≢ hash → i < count b k → offset_of b k + width_of k * i + width_of k ≤ offset_of b (k + 1)
record_room b k i layout inside other index =
    let e : offset_of b (k + 1) ≡ offset_of b k + width_of k * count b k = layout.whole k inside other in
    let m : width_of k * (i + 1) ≤ width_of k * count b k = mul-le-mul_left (width_of k) (omega arith) in
    omega arith

-- and so in the file
pub record_inside : (b : List ℕ) (k i : ℕ) → HasLayout b → k < end → k ≢ hash → i < count b k → offset_of b k + width_of k * i + width_of k ≤ length b
record_inside b k i layout inside other index =
    let room : offset_of b k + width_of k * i + width_of k ≤ offset_of b (k + 1) = record_room b k i layout inside other index in
    let within : offset_of b (k + 1) ≤ length b = layout.within (k + 1) (omega arith) in
    omega arith
