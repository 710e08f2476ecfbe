use Rattle.glk_package.specs.ObjectRules.{rules_view}
use Rattle.glk_package.proofs.Room.{whole, fit, all_found, if_ok}
use Rattle.glk_package.proofs.package_file.objects.Goals as goal

pub returns-clause-whole : goal.returns-clause-whole
returns-clause-whole c = if_ok _ _ c.read_objects.result (λ objects is. whole (rules_view c.args.rules) c.args.file.now objects.items is) c.read_objects.ensures.ok

pub returns-clause-found : goal.returns-clause-found
returns-clause-found c = if_ok _ _ c.read_objects.result (λ objects is. all_found (rules_view c.args.rules) c.args.file.now objects.items is) c.read_objects.ensures.ok

pub returns-clause-fit : goal.returns-clause-fit
returns-clause-fit c = if_ok _ _ c.read_objects.result (λ objects is. fit (rules_view c.args.rules) c.args.file.now objects.items is) c.read_objects.ensures.ok
