use Rattle.std.proofs.Common.{◌≡◌, ◌∙◌, ap, sum, take, drop, arith}
use Rattle.byteorder.specs.Endian.{big_number}
use Rattle.vn_cksum.specs.Sums.{words_of}
use Rattle.vn_types.proofs.OctetNumbers.{octets-slice}
use Rattle.vn_cksum.proofs.Totals.{first_word, last_word, no_word, twice_total}
use Rattle.vn_cksum.proofs.sum.total.Goals as goal

pub overflow_add-total : goal.overflow_add-total
overflow_add-total c =
    let word = first_word c.loop-rest.rest.now (omega arith) in
    let most = twice_total c.args.octets.now (octets-slice c.args.octets.now c.type_inv.octets) in
    let read : c.read_u16.result ≡ big_number 2 (take 2 c.loop-rest.rest.now) = c.read_u16.ensures ∙ ap (big_number 2) c.split_at.ensures.front in
    omega (arith, word, most, read)

pub loop-rest-preserved : goal.loop-rest-preserved
loop-rest-preserved c =
    let word = first_word c.loop-rest.rest.now (omega arith) in
    let read : c.read_u16.result ≡ big_number 2 (take 2 c.loop-rest.rest.now) = c.read_u16.ensures ∙ ap (big_number 2) c.split_at.ensures.front in
    let others : sum (words_of c.split_at.result.1.now) ≡ sum (words_of (drop 2 c.loop-rest.rest.now)) = ap (λ xs. sum (words_of xs)) c.split_at.ensures.back in
    omega (arith, word, read, others)

pub overflow_add-result : goal.overflow_add-result
overflow_add-result c =
    let word = last_word c.loop-rest.rest.now (omega arith) in
    let most = twice_total c.args.octets.now (octets-slice c.args.octets.now c.type_inv.octets) in
    omega (arith, word, most)

pub returns-in-len1-clause-words : goal.returns-in-len1-clause-words
returns-in-len1-clause-words c = let word = last_word c.loop-rest.rest.now (omega arith) in omega (arith, word)

pub returns-in-len1-clause-small : goal.returns-in-len1-clause-small
returns-in-len1-clause-small c =
    let word = last_word c.loop-rest.rest.now (omega arith) in
    let most = twice_total c.args.octets.now (octets-slice c.args.octets.now c.type_inv.octets) in
    omega (arith, word, most)

pub returns-in_default-clause-words : goal.returns-in_default-clause-words
returns-in_default-clause-words c = let none = no_word c.loop-rest.rest.now (omega arith) in omega (arith, none)

pub returns-in_default-clause-small : goal.returns-in_default-clause-small
returns-in_default-clause-small c =
    let most = twice_total c.args.octets.now (octets-slice c.args.octets.now c.type_inv.octets) in
    omega (arith, most)
