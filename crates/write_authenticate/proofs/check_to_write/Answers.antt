use Rattle.wire.proofs.Laws.{go_on, clear, handed_over}
use Rattle.write_authenticate.specs.Writing.{check_to_write}
use Rattle.write_authenticate.proofs.Sent.{checks, names_are}
use Rattle.write_authenticate.proofs.check_to_write.Goals as goal

pub returns-in_default : goal.returns-in_default
unfolding check_to_write
returns-in_default c = search checks

pub returns-in_err-check_names : goal.returns-in_err-check_names
unfolding check_to_write
returns-in_err-check_names c =
    go_on _ _ _ _ _ c.charset_holds.ensures c.in-Held.is (
    handed_over _ _ _ _ _ c.from_residual.ensures.1 (names_are _ _ _ _ _ _ c.unicode.ensures c.check_names.ensures) c.in_err-check_names.was)

pub returns-in_default-key_holds : goal.returns-in_default-key_holds
unfolding check_to_write
returns-in_default-key_holds c =
    go_on _ _ _ _ _ c.charset_holds.ensures c.in-Held.is (
    clear _ _ _ _ _ _ (names_are _ _ _ _ _ _ c.unicode.ensures c.check_names.ensures) c.in_ok-check_names.was (search checks depth 10 fits 40000))

pub returns-in_default-size_holds : goal.returns-in_default-size_holds
unfolding check_to_write
returns-in_default-size_holds c =
    go_on _ _ _ _ _ c.charset_holds.ensures c.in-Held.is (
    clear _ _ _ _ _ _ (names_are _ _ _ _ _ _ c.unicode.ensures c.check_names.ensures) c.in_ok-check_names.was (search checks depth 10 fits 40000))

pub returns-in_default-room_holds : goal.returns-in_default-room_holds
unfolding check_to_write
returns-in_default-room_holds c =
    go_on _ _ _ _ _ c.charset_holds.ensures c.in-Held.is (
    clear _ _ _ _ _ _ (names_are _ _ _ _ _ _ c.unicode.ensures c.check_names.ensures) c.in_ok-check_names.was (search checks depth 10 fits 40000))

pub returns : goal.returns
unfolding check_to_write
returns c =
    go_on _ _ _ _ _ c.charset_holds.ensures c.in-Held.is (
    clear _ _ _ _ _ _ (names_are _ _ _ _ _ _ c.unicode.ensures c.check_names.ensures) c.in_ok-check_names.was (search checks depth 10 fits 40000))
