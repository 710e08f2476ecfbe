use Rattle.std.proofs.Common.{◌∙◌}
use Rattle.glk_objtext.proofs.CanonicalLines.{text_is}
use Rattle.glk_objtext.proofs.Joins.{text_joined}
use Rattle.glk_objtext.proofs.write.print.Goals as goal

pub returns-clause-lines : goal.returns-clause-lines
returns-clause-lines c = rw (c.in_ok-push_names.ensures, c.in_ok-push_flag_records.ensures, c.in_ok-push_references.ensures, c.in_ok-push_defs-4.ensures, c.in_ok-push_defs-3.ensures, c.in_ok-push_defs-2.ensures, c.in_ok-push_defs.ensures, c.in_ok-push_sources.ensures, c.in_ok-push_packages.ensures, c.in_ok-push_imports.ensures, c.in_ok-push_header.ensures, c.new-out.ensures.items, c.as_slice.ensures, c.as_slice-2.ensures, c.as_slice-3.ensures, c.as_slice-4.ensures, c.as_slice-5.ensures, c.as_slice-6.ensures, c.as_slice-7.ensures, c.as_slice-8.ensures, c.as_slice-9.ensures, c.as_slice-10.ensures) (text_joined c.args.d.now)

pub returns-clause-canonical : goal.returns-clause-canonical
returns-clause-canonical c = returns-clause-lines c ∙ text_is c.args.d.now
