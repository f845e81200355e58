use Rattle.scan_lang.proofs.reader.read_entry.Goals as goal

pub returns-in-Frame : goal.returns-in-Frame
returns-in-Frame g c = λ left. rw c.in-Frame.is (c.read_frame.ensures left)
