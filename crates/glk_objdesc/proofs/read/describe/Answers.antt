use Rattle.std.proofs.Common.{arith, ◌≡◌, ◌∙◌, ◌-◌}
use Rattle.glk_objdesc.specs.Described.{first_hash64, first_hashed, first_ndef}
use Rattle.glk_objdesc.proofs.Describing.{described_is}
use Rattle.glk_objdesc.proofs.read.describe.Goals as goal

pub returns : goal.returns
returns c =
    let b = c.args.view.now in
    let mn = c.definitions.result - c.count.result in
    let mh = mn - c.count-2.result in
    let m64 = mh - c.count-3.result in
    let facts = c.definitions.ensures.value in
    let n = c.count.ensures.value in
    let h = c.count-2.ensures.value in
    let s = c.count-3.ensures.value in
    let i64 : m64 ≡ first_hash64 b = omega (arith, facts, n, h, s) in
    let ih : mh ≡ first_hashed b = omega (arith, facts, n, h, s) in
    let ind : mn ≡ first_ndef b = omega (arith, facts, n, h, s) in
    described_is b _ c.count-4.result m64 mh mn c.flags.ensures c.fingerprint.ensures
    (c.new.ensures ∙ c.in_ok-autolib.ensures) (c.new-2.ensures ∙ c.in_ok-pkgs.ensures) (c.new-3.ensures ∙ c.in_ok-files.ensures)
    (c.new-4.ensures ∙ c.in_ok-plain_definitions.ensures) (c.new-5.ensures ∙ c.in_ok-hash64.ensures) (c.new-6.ensures ∙ c.in_ok-hashed.ensures)
    (c.new-7.ensures ∙ c.in_ok-plain_definitions-2.ensures) (c.new-8.ensures ∙ c.in_ok-references.ensures) (c.new-9.ensures ∙ c.in_ok-ref_flags.ensures)
    (c.new-10.ensures ∙ c.in_ok-ref_names.ensures) i64 ih ind c.count-4.ensures.value
