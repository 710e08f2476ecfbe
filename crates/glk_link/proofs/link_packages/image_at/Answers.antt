use Rattle.std.proofs.Common.{ℕ, List, Some, sym, ap, ◌∙◌}
use Rattle.std.specs.Prelude.{slice_index}
use Rattle.glk_elf.specs.Placing.{text_start}
use Rattle.glk_arena.specs.World.{Package}
use Rattle.glk_link.specs.Layout.{address_of}
use Rattle.glk_link.proofs.ContentOnce.{address_some}
use Rattle.glk_link.proofs.TextSteps.{text_weaker}
use Rattle.glk_link.proofs.link_packages.image_at.Goals as goal

pub returns : goal.returns
returns c =
    let world : List Package = c.args.world.now in
    let kept : List ℕ = c.args.kept.now in
    let addrs : List ℕ = c.args.addrs.now in
    let image = c.in_ok-image.ensures in
    let found = address_some world text_start kept addrs c.args.start c.requires.plan.at c.requires.start in
    let there = c.requires.plan.each c.args.start found.0 found.1 in record {
      addrs = addrs;
      bytes = c.in_ok-text.text.items;
      parts = image.0;
      are_at = c.requires.plan.at;
      is_text = text_weaker world (address_of kept addrs) (λ t. Some (slice_index c.args.places.now t)) text_start kept addrs c.in_ok-text.text.items
          (λ t a is. ap Some (c.requires.plan.each t a is)) c.in_ok-text.ensures.text;
      starts = found.1 ∙ ap Some (sym there ∙ sym image.1);
      sections = image.2;
      placed = image.3;
      joined = image.4;
    }
