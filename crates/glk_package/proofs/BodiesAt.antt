-- Where what a package file holds is in it.
use Rattle.std.proofs.Common.{◌≡◌, ◌≤◌, ◌+◌, ◌++◌, ℕ, List, [], length, take, drop, Option, subst, refl, ap, sym, ◌∙◌, length-append, arith, length-drop}
use Rattle.std.proofs.lemmas.List.{drop-drop, append-nil, take-append-drop}
use Rattle.std.proofs.lemmas.Bool.Decides.{Decides-eqb}
use Rattle.std.proofs.lemmas.Slice.Eq.{starts_is}
use Rattle.glk_base.specs.BytesAt.{IsAt}
use Rattle.glk_base.proofs.BytesAt.{is_at_part}
use Rattle.glk_ar.specs.Archive.{Entry, IsMemberAt, body_at}
use Rattle.glk_ar.specs.Member.{header_length, size_of}
use Rattle.glk_ar.specs.Part.{Part, mark, IsMarkAt, HoldsPart}
use Rattle.glk_package.specs.ObjectRules.{ObjectRules}
use Rattle.glk_package.specs.ObjectEntry.{ObjectEntry, IsFoundIn}
use Rattle.glk_package.specs.Members.{IsObjectIn}

-- bytes at an offset end inside
pub is_at_end : (r : List ℕ) (at : ℕ) (x : List ℕ) → IsAt r at x → at + length x ≤ length r
is_at_end r at x is = omega (arith, is.inside, length-drop at r, ap length is.is, length-append x is.rest)

-- the end of bytes is in them
tail_at : (r : List ℕ) (at : ℕ) → at ≤ length r → IsAt r at (drop at r)
tail_at r at inside = record { inside = inside; rest = []; is = sym (append-nil (drop at r)) }

pub whole_at : (file : List ℕ) → IsAt file 0 file
whole_at file = tail_at file 0 (omega arith)

-- the body of a member is in the file after its header
pub body_is_at : (file : List ℕ) (p : ℕ) (e : Entry) → IsMemberAt file p e → IsAt file (body_at e) e.body
body_is_at file p e member =
    let size : ℕ = size_of (drop p file) in
    let room : header_length + size ≤ length (drop p file) = member.member 5 in
    let rest : List ℕ = drop header_length (drop p file) in
    let at : body_at e ≡ p + header_length = ap (λ x. x.at + header_length) member.entry in
    let body : e.body ≡ take size rest = ap (λ x. x.body) member.entry in
    let split : rest ≡ take size rest ++ drop size rest = sym (take-append-drop size rest) in
    record {
      inside = omega (arith, member.inside, room, length-drop p file, at);
      rest = drop size rest;
      is = ap (λ q. drop q file) at ∙ sym (drop-drop header_length p file) ∙ split ∙ ap (λ t. t ++ drop size rest) (sym body);
    }

-- a mark is whole in its body
pub mark_inside : (body : List ℕ) (i : ℕ) → IsMarkAt body i → i + length mark ≤ length body
mark_inside body i here =
    let split : drop i body ≡ mark ++ drop (length mark) (drop i body) = (starts_is Decides-eqb (drop i body) mark _ refl).0 here in
    let long : length (drop i body) ≡ length mark + length (drop (length mark) (drop i body)) = ap length split ∙ length-append mark (drop (length mark) (drop i body)) in
    omega (arith, long, length-drop i body)

-- the data of an object begin in its body, or at its end
part_inside : (body : List ℕ) (part : Part) → HoldsPart body part → part.at ≤ length body
part_inside body part holds = let room = mark_inside body holds.mark_at holds.first.here in omega (arith, room, holds.at)

-- An object that a body holds is in the file where it says.
pub found : (rules : ObjectRules) (n at : ℕ) (name : Option (List ℕ)) (file body : List ℕ) (object : ObjectEntry)
    → IsObjectIn rules n at name body object → IsAt file at body → IsFoundIn file object
found rules n at name file body object is whole =
    let k : ℕ = is.part.at in
    let offset : object.at ≡ at + k = ap (λ o. o.at) is.is in
    let bytes : object.goobj ≡ drop k body = ap (λ o. o.goobj) is.is ∙ is.holds.goobj in
    let tail : IsAt file (at + k) (drop k body) = is_at_part file at k body (drop k body) whole (tail_at body k (part_inside body is.part is.holds)) in
    let P : ℕ → Type 0 = λ q. IsAt file q object.goobj in
    let Q : List ℕ → Type 0 = λ t. IsAt file (at + k) t in
    subst P (sym offset) (subst Q (sym bytes) tail)
