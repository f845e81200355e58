use Rattle.std.proofs.Common.{inl}
use Rattle.fusion_cli.proofs.program.report.Goals as goal

pub returns-in-NoMemory : goal.returns-in-NoMemory
returns-in-NoMemory g c = rw c.in-NoMemory.is (record { front = c.report_text.ensures.front; whole = λ none. inl (c.report_text.ensures.whole none) })

pub returns-in-Usage : goal.returns-in-Usage
returns-in-Usage g c = rw c.in-Usage.is (record { front = c.report_text-in-Usage.ensures.front; whole = λ none. inl (c.report_text-in-Usage.ensures.whole none) })

pub returns-in-ReadFault : goal.returns-in-ReadFault
returns-in-ReadFault g c = rw c.in-ReadFault.is (record { front = c.report_text-in-ReadFault.ensures.front; whole = λ none. inl (c.report_text-in-ReadFault.ensures.whole none) })

pub returns-in-WriteFault : goal.returns-in-WriteFault
returns-in-WriteFault g c = rw c.in-WriteFault.is (record { front = c.report_text-in-WriteFault.ensures.front; whole = λ none. inl (c.report_text-in-WriteFault.ensures.whole none) })
