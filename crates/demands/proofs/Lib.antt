-- ---- laws that the proofs share
pub mod Bools
pub mod Judged
pub mod Alike
pub mod First64
pub mod DnsText
-- ---- what the statements speak of: the order of checks, messages and lists by their bytes alone, the calls from C
pub mod Order
pub mod Message
pub mod PairList
pub mod NlAuth
-- ---- demand 1: every call answers, or refuses by a number in the order given, and changes no lent byte but what it writes
pub mod TakenExactly
pub mod SearchedExactly
pub mod ListRead
pub mod WrittenExactly
pub mod Answering
pub mod Kept
pub mod Answers
-- ---- demand 2: each field's own bytes, ignored bytes change nothing, what is written reads back
pub mod OwnBytes
pub mod NumbersFromC
pub mod FieldCopied
pub mod InTurn
pub mod Walk
pub mod Asking
pub mod PairIds
pub mod Ignored
pub mod LaidOut
pub mod ReadBack
-- ---- demand 2: the log lines
pub mod Digits
pub mod Units
pub mod Kind
pub mod TakenLine
pub mod Printed
pub mod LineShows
-- ---- demand 3: no log tells a secret
pub mod Secret
-- ---- requests 2/12 to 12/12; 1/12 is among the above
pub mod ResponsePairs
pub mod RefusedLine
pub mod Explained
pub mod DnsName
pub mod StringShown
pub mod DigitByDigit
pub mod ThinCalls
pub mod Batch
pub mod MaxLen
pub mod Mic
pub mod MicExample
pub mod Canonical
pub mod HeaderLine
-- ---- the bench's cases, worked examples, and messages of which the hypotheses hold
pub mod Bench
pub mod Examples
pub mod Hypotheses
