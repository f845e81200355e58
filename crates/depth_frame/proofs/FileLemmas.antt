-- A file that is put together as it should be is read.
use Rattle.std.proofs.Common.{◌≡◌, ℕ, suc, ◌+◌, ◌-◌, ◌≤◌, ◌<◌, List, [], ◌∷◌, ◌++◌, length, map, Bool, true, false, not, leb, eqb, Result, Ok, refl, sym, ap, ◌∙◌, append_assoc, length-append, arith}
use Rattle.std.proofs.lemmas.Bool.{le-leb, lt-leb, and_parts, not_from_true}
use Rattle.std.proofs.lemmas.Bool.Decides.{nat_tests}
use Rattle.std.proofs.lemmas.List.Elements.{All-head, All-tail}
use Rattle.std.specs.Char.{is_ascii_digit}
use Rattle.std.specs.List.{All, fold, list_all, flat_map}
use Rattle.fixed_geom.specs.Decimal.{number_of, with_digit}
use Rattle.depth_frame.specs.declared.error.BadPgm.{BadPgm}
use Rattle.depth_frame.specs.declared.header.Mark.{Mark}
use Rattle.depth_frame.specs.declared.header.Number.{Number}
use Rattle.depth_frame.specs.declared.header.Shape.{Shape}
use Rattle.depth_frame.specs.Files.{Piece, white, comment, ends_comment, piece_bytes, is_piece, Gap, gap_bytes, is_gap, IsNumber, SampleBytes, sample_of, sample_bytes, IsSample, File, file_raster, file_bytes, IsFile, file_depth_map}
use Rattle.depth_frame.specs.Pgm.{gap_end, mark, number_end, number_at, judged_at, side_judged, maxval_judged, magic_at, header_at, is_wide, sample_len, with_sample, one_sample, raster_at, pgm_at, starts_gap, is_white, in_gap, in_comment, pgm_of, placed}
use Rattle.scan_io.specs.Steps.{◌>>=◌}
use Rattle.scan_io.specs.Reading.{turned}
use Rattle.depth_frame.proofs.PgmLemmas.{number_on, number_whole, gap_on, gap_digit, number_rest, number_parts, judged_rest, judged_split, shape, header_width, header_height, header_maxval, header_split, raster_of, file_split, magic_split}

-- ---- a number is read

abbrev number : ℕ → ℕ → ℕ → ℕ → Number
number v first b at = record { value = v; first = first; after = b; offset = at }

digits_read : (ds : List ℕ) (first v n b at : ℕ) (t : List ℕ) → at ≡ n + length ds → list_all is_ascii_digit ds ≡ true → at ≤ first + 9 → at ≤ 4096 → is_ascii_digit b ≡ false
    → number_end first v n (ds ++ b ∷ t) ≡ Ok (number (fold with_digit v ds) first b at, t)
digits_read [] first v n b at t is all few low other = let e : at ≡ n = omega arith in rw e (number_whole first v n b other t)
digits_read (d ∷ ds) first v n b at t is all few low other =
    let p = and_parts (is_ascii_digit d) (list_all is_ascii_digit ds) all in
    number_on first v n d (omega arith) (omega arith) p.0 (ds ++ b ∷ t) ∙ digits_read ds first (with_digit v d) (n + 1) b at t (omega arith) p.1 few low other

digit_ends_gap : (d : ℕ) → is_ascii_digit d ≡ true → in_gap false d ≡ false
digit_ends_gap d h = grind (arith, nat_tests)

side_ok : (v first b at : ℕ) → starts_gap b ≡ true → 1 ≤ v → v ≤ 4096 → at < 4096 → side_judged (number v first b at) ≡ Ok (number v first b at)
side_ok v first b at gap some most low =
    let e : leb 1 v ≡ true = le-leb 1 v some in
    let f : leb v 4096 ≡ true = le-leb v 4096 most in
    let h : leb 4096 at ≡ false = lt-leb 4096 at low in
    rw (gap, e, f, h) refl

maxval_ok : (v first b at : ℕ) → is_white b ≡ true → 1 ≤ v → v ≤ 65535 → at < 4096 → maxval_judged (number v first b at) ≡ Ok (number v first b at)
maxval_ok v first b at gap some most low =
    let e : leb 1 v ≡ true = le-leb 1 v some in
    let f : leb v 65535 ≡ true = le-leb v 65535 most in
    let h : leb 4096 at ≡ false = lt-leb 4096 at low in
    rw (gap, h, e, f) refl

-- ---- gaps

comment_read : (text : List ℕ) (last n at : ℕ) (t : List ℕ) → list_all (λ b. not (ends_comment b)) text ≡ true → ends_comment last ≡ true → at ≡ n + length text + 1 → at ≤ 4096
    → gap_end true n (text ++ last ∷ t) ≡ gap_end false at t
comment_read [] last n at t all ends is low =
    let e : in_comment true last ≡ false = not_from_true (ends_comment last) ends in
    let f : n + 1 ≡ at = omega arith in
    gap_on true n last (omega arith) refl t ∙ rw (e, f) refl
comment_read (b ∷ text) last n at t all ends is low =
    let p = and_parts (not (ends_comment b)) (list_all (λ b. not (ends_comment b)) text) all in
    let e : in_comment true b ≡ true = p.0 in
    gap_on true n b (omega arith) refl (text ++ last ∷ t) ∙ rw e (comment_read text last (n + 1) at t p.1 ends (omega arith) low)

white_gap : (b : ℕ) → is_white b ≡ true → in_gap false b ≡ true
white_gap b h = rw h refl

white_no_mark : (b : ℕ) → is_white b ≡ true → eqb b 35 ≡ false
white_no_mark b h = grind (arith, nat_tests)

gap_no_digit : (b : ℕ) → starts_gap b ≡ true → is_ascii_digit b ≡ false
gap_no_digit b h = grind (arith, nat_tests)

pieces_read : (ps : List Piece) (n at d : ℕ) (u : List ℕ) → list_all is_piece ps ≡ true → at ≡ n + length (flat_map piece_bytes ps) → at < 4096 → is_ascii_digit d ≡ true
    → gap_end false n (flat_map piece_bytes ps ++ d ∷ u) ≡ Ok (mark d at, u)
pieces_read [] n at d u all is low digit = let e : at ≡ n = omega arith in rw e (gap_digit false n d (omega arith) (digit_ends_gap d digit) digit u)
pieces_read (white b ∷ ps) n at d u all is low digit =
    let p = and_parts (is_white b) (list_all is_piece ps) all in
    gap_on false n b (omega arith) (white_gap b p.0) (flat_map piece_bytes ps ++ d ∷ u) ∙ rw (white_no_mark b p.0) (pieces_read ps (n + 1) at d u p.1 (omega arith) low digit)
pieces_read (comment text last ∷ ps) n at d u all is low digit =
    let p = and_parts (is_piece (comment text last)) (list_all is_piece ps) all in
    let q = and_parts (list_all (λ b. not (ends_comment b)) text) (ends_comment last) p.0 in
    let size = simp length-append at is in
    let rest = flat_map piece_bytes ps ++ d ∷ u in
    let split : flat_map piece_bytes (comment text last ∷ ps) ++ d ∷ u ≡ 35 ∷ (text ++ last ∷ rest) = simp append_assoc in
    ap (gap_end false n) split ∙ gap_on false n 35 (omega arith) refl (text ++ last ∷ rest)
    ∙ comment_read text last (n + 1) (n + 1 + length text + 1) rest q.0 q.1 refl (omega arith) ∙ pieces_read ps (n + 1 + length text + 1) at d u p.1 (omega arith) low digit

-- ---- a gap and the number after it

abbrev first_byte : Piece → ℕ
first_byte (white b) = b
first_byte (comment text last) = 35

abbrev other_bytes : Piece → List ℕ
other_bytes (white b) = []
other_bytes (comment text last) = text ++ last ∷ []

abbrev gap_byte : Gap → ℕ
gap_byte g = first_byte g.first

abbrev gap_rest : Gap → List ℕ
gap_rest g = other_bytes g.first ++ flat_map piece_bytes g.others

piece_split : (p : Piece) → piece_bytes p ≡ first_byte p ∷ other_bytes p
piece_split (white b) = refl
piece_split (comment text last) = refl

gap_split_bytes : (g : Gap) (x : List ℕ) → gap_bytes g ++ x ≡ gap_byte g ∷ (gap_rest g ++ x)
gap_split_bytes g x = ap (λ (l : List ℕ). (l ++ flat_map piece_bytes g.others) ++ x) (piece_split g.first)

gap_size : (g : Gap) → length (gap_bytes g) ≡ 1 + length (gap_rest g)
gap_size g =
    let e : length (gap_bytes g) ≡ suc (length (gap_rest g)) = ap (λ (l : List ℕ). length (l ++ flat_map piece_bytes g.others)) (piece_split g.first) in
    omega arith

starts : (p : Piece) → is_piece p ≡ true → starts_gap (first_byte p) ≡ true
starts (white b) h = rw h refl
starts (comment text last) h = refl

gap_starts : (g : Gap) → is_gap g ≡ true → starts_gap (gap_byte g) ≡ true
gap_starts g h = starts g.first (and_parts (is_piece g.first) (list_all is_piece g.others) h).0

first_read : (p : Piece) (ps : List Piece) (n at d : ℕ) (u : List ℕ) → is_piece p ≡ true → list_all is_piece ps ≡ true → at ≡ n + length (other_bytes p ++ flat_map piece_bytes ps) → at < 4096 → is_ascii_digit d ≡ true
    → gap_end (eqb (first_byte p) 35) n ((other_bytes p ++ flat_map piece_bytes ps) ++ d ∷ u) ≡ Ok (mark d at, u)
first_read (white b) ps n at d u h all is low digit = rw (white_no_mark b h) (pieces_read ps n at d u all is low digit)
first_read (comment text last) ps n at d u h all is low digit =
    let q = and_parts (list_all (λ b. not (ends_comment b)) text) (ends_comment last) h in
    let size = simp length-append at is in
    let rest = flat_map piece_bytes ps ++ d ∷ u in
    let split : ((text ++ last ∷ []) ++ flat_map piece_bytes ps) ++ d ∷ u ≡ text ++ last ∷ rest = simp append_assoc in
    ap (gap_end true n) split ∙ comment_read text last n (n + length text + 1) rest q.0 q.1 refl (omega arith) ∙ pieces_read ps (n + length text + 1) at d u all (omega arith) low digit

number_read : (g : Gap) (ds : List ℕ) (n first b at most : ℕ) (t : List ℕ) → is_gap g ≡ true → IsNumber ds most → first ≡ n + length (gap_bytes g) → at ≡ first + length ds → at ≤ 4096 → is_ascii_digit b ≡ false
    → number_at (gap_byte g) n (gap_rest g ++ (ds ++ b ∷ t)) ≡ Ok (number (number_of ds) first b at, t)
number_read g [] n first b at most t gap num is_first is low other = absurd (omega (arith, num.some))
number_read g (d ∷ ds) n first b at most t gap num is_first is low other =
    let p = and_parts (is_ascii_digit d) (list_all is_ascii_digit ds) num.digits in
    let q = and_parts (is_piece g.first) (list_all is_piece g.others) gap in
    let size = gap_size g in
    let found : gap_end (eqb (gap_byte g) 35) (n + 1) (gap_rest g ++ d ∷ (ds ++ b ∷ t)) ≡ Ok (mark d first, ds ++ b ∷ t) = first_read g.first g.others (n + 1) first d (ds ++ b ∷ t) q.0 q.1 (omega arith) (omega arith) p.0 in
    let e : d - 48 ≡ with_digit 0 d = omega arith in
    let value : fold with_digit (d - 48) ds ≡ number_of (d ∷ ds) = ap (λ (x : ℕ). fold with_digit x ds) e in
    number_parts (gap_byte g) n (gap_rest g ++ d ∷ (ds ++ b ∷ t)) ∙ ap (λ (r : Result (Mark × List ℕ) BadPgm). r >>= λ q. number_rest q.0 q.1) found
    ∙ digits_read ds first (d - 48) (first + 1) b at t (omega arith) p.1 (omega (arith, num.few)) low other
    ∙ ap (λ (x : ℕ). Ok (number x first b at, t)) value

judged_read : (judge : Number → Result Number BadPgm) (g : Gap) (ds : List ℕ) (n first b at most : ℕ) (t : List ℕ) → is_gap g ≡ true → IsNumber ds most → first ≡ n + length (gap_bytes g) → at ≡ first + length ds → at ≤ 4096 → is_ascii_digit b ≡ false
    → judge (number (number_of ds) first b at) ≡ Ok (number (number_of ds) first b at) → judged_at judge (gap_byte g) n (gap_rest g ++ (ds ++ b ∷ t)) ≡ Ok (number (number_of ds) first b at, t)
judged_read judge g ds n first b at most t gap num is_first is low other good =
    judged_split judge (gap_byte g) n (gap_rest g ++ (ds ++ b ∷ t)) ∙ ap (λ (r : Result (Number × List ℕ) BadPgm). r >>= λ q. judged_rest judge q.0 q.1) (number_read g ds n first b at most t gap num is_first is low other)
    ∙ ap (λ (r : Result Number BadPgm). r >>= λ j. Ok (j, t)) good

-- ---- samples

sample_read : (maxval : ℕ) (wide : Bool) (s : SampleBytes) (n : ℕ) (t : List ℕ) → is_wide maxval ≡ wide → IsSample maxval s → one_sample maxval n (sample_bytes wide s ++ t) ≡ Ok (sample_of s, t)
sample_read maxval true s n t wide h = let e : leb (sample_of s) maxval ≡ true = le-leb (sample_of s) maxval h.most in rw (wide, e) refl
sample_read maxval false s n t wide h =
    let zero : s.high ≡ 0 = h.narrow wide in
    let value : s.low ≡ sample_of s = omega arith in
    let e : leb s.low maxval ≡ true = le-leb s.low maxval (omega (arith, h.most)) in
    rw (wide, e) (ap (λ (v : ℕ). Ok (v, t)) value)

raster_read : (maxval : ℕ) (ss : List SampleBytes) (n : ℕ) (t : List ℕ) → All (IsSample maxval) ss → raster_at maxval (length ss) n (flat_map (sample_bytes (is_wide maxval)) ss ++ t) ≡ Ok (map sample_of ss, t)
raster_read maxval [] n t all = refl
raster_read maxval (s ∷ ss) n t all =
    let rest = flat_map (sample_bytes (is_wide maxval)) ss ++ t in
    ap (λ (l : List ℕ). one_sample maxval n l >>= λ q. with_sample q.0 (raster_at maxval (length ss) (n + sample_len maxval) q.1)) (append_assoc (sample_bytes (is_wide maxval) s) (flat_map (sample_bytes (is_wide maxval)) ss) t)
    ∙ ap (λ (r : Result (ℕ × List ℕ) BadPgm). r >>= λ q. with_sample q.0 (raster_at maxval (length ss) (n + sample_len maxval) q.1)) (sample_read maxval (is_wide maxval) s n rest refl (All-head (IsSample maxval) s ss all))
    ∙ ap (with_sample (sample_of s)) (raster_read maxval ss (n + sample_len maxval) t (All-tail (IsSample maxval) s ss all))

-- ---- the file

pub together : (g dw h dh k dm : List ℕ) (b : ℕ) (r t : List ℕ) → ((80 ∷ 53 ∷ (g ++ (dw ++ (h ++ (dh ++ (k ++ (dm ++ b ∷ []))))))) ++ r) ++ t ≡ 80 ∷ 53 ∷ (g ++ (dw ++ (h ++ (dh ++ (k ++ (dm ++ b ∷ (r ++ t)))))))
together g dw h dh k dm b r t = simp append_assoc

pub header_size : (g dw h dh k dm : List ℕ) (b : ℕ) → length (80 ∷ 53 ∷ (g ++ (dw ++ (h ++ (dh ++ (k ++ (dm ++ b ∷ []))))))) ≡ 2 + length g + length dw + length h + length dh + length k + length dm + 1
header_size g dw h dh k dm b = simp length-append (omega arith)

white_no_digit : (b : ℕ) → is_white b ≡ true → is_ascii_digit b ≡ false
white_no_digit b h = grind (arith, nat_tests)

pub file_is_read : (f : File) (t : List ℕ) → IsFile f → pgm_at (file_bytes f ++ t) ≡ Ok (file_depth_map f, t)
file_is_read f t h =
    let size = header_size (gap_bytes f.before_width) f.width (gap_bytes f.before_height) f.height (gap_bytes f.before_maxval) f.maxval f.after_maxval in
    let low : 2 + length (gap_bytes f.before_width) + length f.width + length (gap_bytes f.before_height) + length f.height + length (gap_bytes f.before_maxval) + length f.maxval + 1 ≤ 4096 = omega (arith, h.header) in
    let wf = 2 + length (gap_bytes f.before_width) in
    let wa = wf + length f.width in
    let hf = wa + length (gap_bytes f.before_height) in
    let ha = hf + length f.height in
    let mf = ha + length (gap_bytes f.before_maxval) in
    let ma = mf + length f.maxval in
    let u = file_raster f ++ t in
    let zm = f.maxval ++ f.after_maxval ∷ u in
    let tm = gap_rest f.before_maxval ++ zm in
    let zh = f.height ++ gap_byte f.before_maxval ∷ tm in
    let th = gap_rest f.before_height ++ zh in
    let zw = f.width ++ gap_byte f.before_height ∷ th in
    let tw = gap_rest f.before_width ++ zw in
    let hs = gap_starts f.before_height h.gap_height in
    let ms = gap_starts f.before_maxval h.gap_maxval in
    let p0 : magic_at (80 ∷ 53 ∷ gap_byte f.before_width ∷ tw) ≡ Ok (gap_byte f.before_width, tw) = magic_split (80 ∷ 53 ∷ gap_byte f.before_width ∷ tw) ∙ rw (gap_starts f.before_width h.gap_width) refl in
    let p1 : judged_at side_judged (gap_byte f.before_width) 2 tw ≡ Ok (number (number_of f.width) wf (gap_byte f.before_height) wa, th) =
    judged_read side_judged f.before_width f.width 2 wf (gap_byte f.before_height) wa 4096 th h.gap_width h.width refl refl (omega arith) (gap_no_digit (gap_byte f.before_height) hs) (side_ok (number_of f.width) wf (gap_byte f.before_height) wa hs h.width.least h.width.most (omega arith)) in
    let p2 : judged_at side_judged (gap_byte f.before_height) wa th ≡ Ok (number (number_of f.height) hf (gap_byte f.before_maxval) ha, tm) =
    judged_read side_judged f.before_height f.height wa hf (gap_byte f.before_maxval) ha 4096 tm h.gap_height h.height refl refl (omega arith) (gap_no_digit (gap_byte f.before_maxval) ms) (side_ok (number_of f.height) hf (gap_byte f.before_maxval) ha ms h.height.least h.height.most (omega arith)) in
    let p3 : judged_at maxval_judged (gap_byte f.before_maxval) ha tm ≡ Ok (number (number_of f.maxval) mf f.after_maxval ma, u) =
    judged_read maxval_judged f.before_maxval f.maxval ha mf f.after_maxval ma 65535 u h.gap_maxval h.maxval refl refl (omega arith) (white_no_digit f.after_maxval h.white) (maxval_ok (number_of f.maxval) mf f.after_maxval ma h.white h.maxval.least h.maxval.most (omega arith)) in
    let text : file_bytes f ++ t ≡ 80 ∷ 53 ∷ gap_byte f.before_width ∷ tw =
    together (gap_bytes f.before_width) f.width (gap_bytes f.before_height) f.height (gap_bytes f.before_maxval) f.maxval f.after_maxval (file_raster f) t
    ∙ ap (λ (l : List ℕ). 80 ∷ 53 ∷ (gap_bytes f.before_width ++ (f.width ++ (gap_bytes f.before_height ++ (f.height ++ l))))) (gap_split_bytes f.before_maxval zm)
    ∙ ap (λ (l : List ℕ). 80 ∷ 53 ∷ (gap_bytes f.before_width ++ (f.width ++ l))) (gap_split_bytes f.before_height zh)
    ∙ ap (λ (l : List ℕ). 80 ∷ 53 ∷ l) (gap_split_bytes f.before_width zw) in
    let header : header_at (80 ∷ 53 ∷ gap_byte f.before_width ∷ tw) ≡ Ok (record { width = number_of f.width; height = number_of f.height; maxval = number_of f.maxval; start = ma + 1 }, u) =
    header_split _
    ∙ ap (λ (r : Result (ℕ × List ℕ) BadPgm). r >>= λ q. header_width q.0 q.1) p0
    ∙ ap (λ (r : Result (Number × List ℕ) BadPgm). r >>= λ q. header_height q.0 q.1) p1
    ∙ ap (λ (r : Result (Number × List ℕ) BadPgm). r >>= λ q. header_maxval (number (number_of f.width) wf (gap_byte f.before_height) wa) q.0 q.1) p2
    ∙ ap (λ (r : Result (Number × List ℕ) BadPgm). r >>= λ q. Ok (shape (number (number_of f.width) wf (gap_byte f.before_height) wa) (number (number_of f.height) hf (gap_byte f.before_maxval) ha) q.0, q.1)) p3 in
    ap pgm_at text ∙ file_split _
    ∙ ap (λ (r : Result (Shape × List ℕ) BadPgm). r >>= λ q. raster_of q.0 q.1) header
    ∙ ap (λ (k : ℕ). raster_at (number_of f.maxval) k (ma + 1) u >>= λ q. Ok (record { width = number_of f.width; height = number_of f.height; raw = q.0 }, q.1)) (sym h.count)
    ∙ ap (λ (r : Result (List ℕ × List ℕ) BadPgm). r >>= λ q. Ok (record { width = number_of f.width; height = number_of f.height; raw = q.0 }, q.1)) (raster_read (number_of f.maxval) f.samples (ma + 1) t h.samples)

pub file_is_read_after : (start : ℕ) (f : File) (t : List ℕ) → IsFile f → pgm_of start (file_bytes f ++ t) ≡ Ok (file_depth_map f, t)
unfolding pgm_of
file_is_read_after start f t h = ap (turned (placed start)) (file_is_read f t h)
