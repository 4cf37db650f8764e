use Rattle.std.proofs.Common.{ℕ, ◌*◌, ap, ◌∙◌, arith}
use Rattle.wire.specs.Number.{u32_at}
use Rattle.md5_digest.proofs.Rounds.{step_is, one_less, round_begun, turn_at, turn_small}
use Rattle.md5_digest.proofs.block.round.Goals as goal

pub loop-n-init : goal.loop-n-init
loop-n-init g c = round_begun _ _ _

pub step-q-requires : goal.step-q-requires
step-q-requires g c =
    let e = turn_at c.args.rotations c.args.first c.loop-n.n c.requires.turned c.requires.inside.0 (omega arith) (omega arith) in
    rw e (turn_small c.loop-n.n (omega arith))

pub loop-n-preserved : goal.loop-n-preserved
loop-n-preserved g c =
    let r = c.requires in
    let n = c.loop-n.n in
    let m = r.mixes n _ _ _ _ (omega arith) (omega arith) c.mix-m.ensures in
    let w = r.chooses n _ (omega arith) (omega arith) c.word.ensures in
    let s = turn_at c.args.rotations c.args.first n r.turned r.inside.0 (omega arith) (omega arith) in
    one_less _ _ _ _ _ _ (omega arith)
    (step_is _ _ _ _ _ _ _ _ c.step-q.ensures m (c.u32_at-w.ensures ∙ ap (λ (k : ℕ). u32_at c.args.x.now (4 * k)) w) c.sine.ensures s)
    c.loop-n.invariant
