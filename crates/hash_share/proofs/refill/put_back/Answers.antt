use Rattle.std.proofs.Common.{◌≡◌, ◌≢◌, ℕ, ◌<◌, Bool, true, false, refl, sym, ap, ◌∙◌, subst, arith}
use Rattle.std.specs.Prelude.{Some, None, Option}
use Rattle.voxel_block.specs.declared.key.BlockKey.{BlockKey}
use Rattle.voxel_block.specs.Words.{key_of}
use Rattle.spatial_hash.specs.Hash.{bucket_of}
use Rattle.spatial_hash.specs.Lookup.{Puts}
use Rattle.hash_share.specs.Refill.{Gains}
use Rattle.hash_share.proofs.refill.put_back.Goals as goal

some-word : (w : ℕ) (k : BlockKey) → key_of w ≡ Some k → w ≢ 0
some-word w k is q = let e : ◌≡◌ {A = Option BlockKey} None (Some k) = ap key_of (sym q) ∙ is in absurd (cc)

above : (w : ℕ) → w ≢ 0 → 0 < w
above w ne = omega arith

not-both : (b : Bool) → b ≡ false → b ≡ true → ⊥
not-both b f t = let e : false ≡ true = sym f ∙ t in absurd (cc)

same-key : (w : ℕ) (a b : BlockKey) → key_of w ≡ Some a → key_of w ≡ Some b → a ≡ b
same-key w a b p q = let e : Some a ≡ Some b = sym p ∙ q in cc

pub unreachable-requires : goal.unreachable-requires
unreachable-requires c =
    let is : key_of c.args.word ≡ Some c.in-Some.key = sym c.in-Some.ensures.value in
    let some : 0 < c.args.word = above c.args.word (some-word c.args.word c.in-Some.key is) in
    (c.requires.ready c.if-spare.false some c.in-Some.key is).1 (c.in-Err.ensures.full.0 refl)

pub returns-in-Ok : goal.returns-in-Ok
returns-in-Ok c =
    let w : ℕ = c.args.word in
    let key : BlockKey = c.in-Some.key in
    let is : key_of w ≡ Some key = sym c.in-Some.ensures.value in
    let t = c.args.table.now in
    let u = c.insert.new.self in
    let puts : Puts t u w (bucket_of t.buckets key) c.in-Ok.field-0 = subst (λ (x : ℕ). Puts t u x (bucket_of t.buckets key) c.in-Ok.field-0) c.in-Some.ensures.back c.in-Ok.ensures.puts in
    let gains : Gains t u key w c.args.cell = record { map = c.in-Ok.ensures.map; entry = c.in-Ok.field-0; puts = puts; size = (c.in-Ok.ensures.size.buckets, c.in-Ok.ensures.size.nodes); count = c.in-Ok.ensures.count } in
    record {
      skipped = λ e. absurd (not-both c.args.spare c.if-spare.false e);
      empty = λ e. absurd (some-word w key is e);
      put = λ _ _ k q. subst (λ (x : BlockKey). Gains t u x w c.args.cell) (same-key w key k is q) gains;
    }
