use Rattle.tm_tests.proofs.DrivenAsked.{stays, may_bye_then}
use Rattle.tm_tests.proofs.tests.turns.looking.collect_sum.Goals as goal

pub returns-clause-place : goal.returns-clause-place
returns-clause-place g c = (stays _ _ c.collect.result c.collect.ensures.collects).0

pub returns-clause-may : goal.returns-clause-may
returns-clause-may g c = λ is. may_bye_then _ _ c.collect.result c.collect.ensures.collects c.requires.sent c.requires.got (c.found_sum.ensures is)
