use Rattle.std.proofs.Common.{◌≡◌, ◌++◌, take, drop}
use Rattle.hmac_md5.specs.Hmac.{key_block, xored}
use Rattle.hmac_md5.proofs.padded.Given as goal

abbrev pub invariant-loop-byte : goal.invariant-loop-byte
invariant-loop-byte l = l.byte-items ≡ xored l.x (take l.byte-index (key_block l.key)) ++ drop l.byte-index (key_block l.key)
