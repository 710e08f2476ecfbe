use Rattle.glk_messages.specs.Messages.{refusal_text}
use Rattle.glk_messages.proofs.PieceLemmas.{seen_as}
use Rattle.glk_messages.proofs.message.write_refusal.Goals as goal

pub returns-in-ReadFault : goal.returns-in-ReadFault
unfolding refusal_text
returns-in-ReadFault g c = seen_as _ _ _ _ c.in-ReadFault.is c.write_line-in-ReadFault.ensures

pub returns-in-WriteFault : goal.returns-in-WriteFault
unfolding refusal_text
returns-in-WriteFault g c = seen_as _ _ _ _ c.in-WriteFault.is c.write_line-in-WriteFault.ensures

pub returns-in-Absent : goal.returns-in-Absent
unfolding refusal_text
returns-in-Absent g c = seen_as _ _ _ _ c.in-Absent.is c.write_line-in-Absent.ensures

pub returns-in-ConfigBad : goal.returns-in-ConfigBad
unfolding refusal_text
returns-in-ConfigBad g c = seen_as _ _ _ _ c.in-ConfigBad.is c.write_line-in-ConfigBad.ensures

pub returns-in-NotGoObject : goal.returns-in-NotGoObject
unfolding refusal_text
returns-in-NotGoObject g c = seen_as _ _ _ _ c.in-NotGoObject.is c.write_line-in-NotGoObject.ensures

pub returns-in-Fingerprint : goal.returns-in-Fingerprint
unfolding refusal_text
returns-in-Fingerprint g c = seen_as _ _ _ _ c.in-Fingerprint.is c.write_line-in-Fingerprint.ensures

pub returns-in-InitCycle : goal.returns-in-InitCycle
unfolding refusal_text
returns-in-InitCycle g c = seen_as _ _ _ _ c.in-InitCycle.is c.write_line-in-InitCycle.ensures

pub returns-in-TooLarge : goal.returns-in-TooLarge
unfolding refusal_text
returns-in-TooLarge g c = seen_as _ _ _ _ c.in-TooLarge.is (rw c.limit_name.ensures at c.write_line-in-TooLarge.ensures)

pub returns-in-Overflow : goal.returns-in-Overflow
unfolding refusal_text
returns-in-Overflow g c = seen_as _ _ _ _ c.in-Overflow.is c.write_overflow.ensures

pub returns-in-TooBig : goal.returns-in-TooBig
unfolding refusal_text
returns-in-TooBig g c = seen_as _ _ _ _ c.in-TooBig.is c.write_line-in-TooBig.ensures
