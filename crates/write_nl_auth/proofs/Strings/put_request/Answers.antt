use Rattle.std.proofs.Common.{arith}
use Rattle.place.proofs.Writings.{whole_content}
use Rattle.write_nl_auth.proofs.Sent.{request_strings, request_fits, head_fits, oem_fits, utf8_fits, under_labels, request_wrote}
use Rattle.write_nl_auth.proofs.Strings.put_request.Goals as goal

pub put_head-place-requires : goal.put_head-place-requires
put_head-place-requires c = head_fits _ _ _ _ _ _ _ (request_fits _ _ _ _ _ _ _ c.requires)

pub put_oem-place-requires : goal.put_oem-place-requires
put_oem-place-requires c =
    let head = c.put_head-place.ensures in
    oem_fits _ _ _ _ _ _ _ (request_fits _ _ _ _ _ _ _ c.requires) _ _ _ head.next head.wrote

pub put_utf8-requires-clause-e_value : goal.put_utf8-requires-clause-e_value
put_utf8-requires-clause-e_value c = under_labels _ _ _ _ _ _ (request_strings _ _ _ _ _ _ _ c.requires)

pub put_utf8-requires-clause-e_in_bounds : goal.put_utf8-requires-clause-e_in_bounds
put_utf8-requires-clause-e_in_bounds c =
    let head = c.put_head-place.ensures in
    utf8_fits _ _ _ _ _ _ _ (request_fits _ _ _ _ _ _ _ c.requires) _ _ _ head.next head.wrote _ _ c.put_oem-place.ensures

pub returns-clause-len : goal.returns-clause-len
returns-clause-len c =
    let wrote = request_wrote _ _ _ _ _ _ _ _ _ _ _ _ _ c.put_head-place.ensures.wrote c.put_oem-place.ensures c.put_utf8.ensures in
    omega (arith, wrote.place)

pub returns-clause-content : goal.returns-clause-content
returns-clause-content c =
    let wrote = request_wrote _ _ _ _ _ _ _ _ _ _ _ _ _ c.put_head-place.ensures.wrote c.put_oem-place.ensures c.put_utf8.ensures in
    whole_content _ _ _ _ wrote (request_fits _ _ _ _ _ _ _ c.requires)
