use Rattle.std.proofs.Common.{refl}
use Rattle.glk_objtext.specs.Description.{description_of_lines}
use Rattle.glk_objtext.proofs.builder.Builder.new.Goals as goal

pub returns : goal.returns
unfolding description_of_lines
returns c = λ more. rw (c.new.ensures.items, c.new-2.ensures.items, c.new-3.ensures.items, c.new-4.ensures.items, c.new-5.ensures.items, c.new-6.ensures.items, c.new-7.ensures.items, c.new-8.ensures.items, c.new-9.ensures.items, c.new-10.ensures.items) refl
