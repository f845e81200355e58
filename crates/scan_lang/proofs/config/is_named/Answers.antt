use Rattle.std.proofs.Common.{◌≡◌, ◌∙◌, refl, arith, eqb, false}
use Rattle.std.proofs.lemmas.Bool.Decides.{nat_tests}
use Rattle.serde_json.specs.Find.{as_object}
use Rattle.serde_json.specs.View.{view}
use Rattle.scan_lang.specs.Config.{count_of}
use Rattle.scan_lang.proofs.ConfigLemmas.{members_len-members_view}
use Rattle.scan_lang.proofs.config.is_named.Goals as goal

pub returns-then-len-eq18 : goal.returns-then-len-eq18
returns-then-len-eq18 c =
    let count : count_of (as_object (view c.args.value.now)) ≡ 18 = rw (← c.in-Some.ensures) (members_len-members_view c.in-Some.map.now.entries ∙ cc) in
    rw count c.has_names.ensures

pub returns-else-len-eq18 : goal.returns-else-len-eq18
returns-else-len-eq18 c =
    let count : count_of (as_object (view c.args.value.now)) ≡ c.len.result = rw (← c.in-Some.ensures) (members_len-members_view c.in-Some.map.now.entries ∙ cc) in
    let no : eqb c.len.result 18 ≡ false = grind (arith, nat_tests) in
    rw (count, no) refl
