use Rattle.std.proofs.Common.{◌≡◌, ◌∙◌, refl, rules, sym, ap, subst, unsigned_abs}
use Rattle.std.proofs.lemmas.Int.{to_z-of_z}
use mir.Val.{to_z, of_z}
use mir.Syntax.{w16, w64}
use Rattle.scan_lang.specs.Config.{Config, IsConfig, made}
use Rattle.scan_lang.proofs.ConfigLemmas.{fits_16, fits_64}
use Rattle.scan_lang.proofs.config.made_from.Goals as goal

is_made : (c : goal.After-result-1) → ◌≡◌ {A = Config} (record { version = c.unsigned_abs.result; camera = c.args.camera; max_weight = c.unsigned_abs-2.result; heap_blocks = c.unsigned_abs-3.result; buckets = c.unsigned_abs-4.result; empty_f = to_z w16 (of_z w16 (to_z w64 (of_z w64 c.args.f.now.empty_f))) }) (made c.args.f.now)
is_made c =
    let version : c.unsigned_abs.result ≡ unsigned_abs c.args.f.now.version = c.unsigned_abs.ensures.value ∙ ap unsigned_abs (to_z-of_z w64 c.args.f.now.version (search rules)) in
    let max_weight : c.unsigned_abs-2.result ≡ unsigned_abs c.args.f.now.max_weight = c.unsigned_abs-2.ensures.value ∙ ap unsigned_abs (to_z-of_z w64 c.args.f.now.max_weight (search rules)) in
    let heap_blocks : c.unsigned_abs-3.result ≡ unsigned_abs c.args.f.now.heap_blocks = c.unsigned_abs-3.ensures.value ∙ ap unsigned_abs (to_z-of_z w64 c.args.f.now.heap_blocks (search rules)) in
    let buckets : c.unsigned_abs-4.result ≡ unsigned_abs c.args.f.now.buckets = c.unsigned_abs-4.ensures.value ∙ ap unsigned_abs (to_z-of_z w64 c.args.f.now.buckets (search rules)) in
    let wide = fits_64 c.args.f.now.empty_f c.requires.known.empty_f c.requires.known.empty_f_high in
    let short = to_z-of_z w16 c.args.f.now.empty_f (fits_16 c.args.f.now.empty_f c.requires.known.empty_f c.requires.known.empty_f_high) in
    rw (c.requires.same, version, max_weight, heap_blocks, buckets, wide, short) refl

pub invariant_of-result : goal.invariant_of-result
invariant_of-result c = subst IsConfig (sym (is_made c)) c.requires.known

pub returns : goal.returns
returns c = is_made c
