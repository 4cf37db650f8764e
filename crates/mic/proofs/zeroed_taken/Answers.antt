use Rattle.std.proofs.Common.{ℕ, arith, length-take, length-drop}
use Rattle.mic.proofs.Laws.{is_zeroed}
use Rattle.mic.proofs.zeroed_taken.Goals as goal

pub slice_bounds-update-end : goal.slice_bounds-update-end
slice_bounds-update-end c = omega (arith, length-take {A = ℕ})

pub update-front-requires : goal.update-front-requires
update-front-requires c = omega (arith, length-take {A = ℕ})

pub update-blank-requires : goal.update-blank-requires
update-blank-requires c = omega (arith, length-take {A = ℕ})

pub update-requires : goal.update-requires
update-requires c = omega (arith, length-take {A = ℕ}, length-drop {A = ℕ})

pub returns : goal.returns
returns c = (
  omega (arith, length-take {A = ℕ}, length-drop {A = ℕ}),
  is_zeroed _ _ _ _ c.args.auth.now c.update-front.ensures.1 c.update-blank.ensures.1 c.update.ensures.1,
)
