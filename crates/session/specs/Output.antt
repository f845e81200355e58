-- What a run writes for a whole byte text.
use Rattle.std.specs.Prelude.{ℕ, List, [], ◌∷◌, take, Result, Ok, Err}
use Rattle.std.specs.List.{concat}
use Rattle.scan_lang.specs.Config.{Config}
use Rattle.scan_lang.specs.declared.error.BadScan.{BadScan}
use Rattle.scan_lang.specs.declared.entry.Entry.{Entry}
use Rattle.scan_lang.specs.Scan.{Scan, Records, Ending, refused, scan_of}
use Rattle.scan_lang.specs.Replies.{text_of}
use Rattle.fusion_core.specs.Fold.{State, start}
use Rattle.session.specs.Fold.{after, reply_to}

-- the bytes of the reply to an entry at a state
abbrev pub reply_text : Config → State → Entry → List ℕ
reply_text c s e = text_of (reply_to c s e)

-- the replies to entries one after another
abbrev pub replies_from : Config → State → List Entry → List (List ℕ)
replies_from c s [] = []
replies_from c s (e ∷ es) = reply_text c s e ∷ replies_from c (after c s e) es

-- the replies, and how the scan ends
pub record Output : Type 0 where
  pub replies : List (List ℕ)
  pub ending : Ending

abbrev pub output_from : Config → State → Records → Output
output_from c s r = record { replies = replies_from c s r.entries; ending = r.ending }

abbrev pub output_in : Result Scan BadScan → Output
output_in (Err why) = record { replies = []; ending = refused why }
output_in (Ok sc) = output_from sc.config start sc.records

unfoldable pub output_of : List ℕ → Output
output_of text = output_in (scan_of text)

-- the bytes of all replies, and of the first n
abbrev pub all_bytes : Output → List ℕ
all_bytes o = concat o.replies

abbrev pub first_bytes : ℕ → Output → List ℕ
first_bytes n o = concat (take n o.replies)
