-- Octets on the wire, by computation.
use Rattle.std.proofs.Common.{◌≡◌, codes, refl}
use Rattle.vn_cksum.specs.Sums.{plus16, sum_words, words_of, sum_of}
use Rattle.vn_link.specs.Macs.{number_of}
use Rattle.vn_packets.specs.Datagrams.{frame_with, datagram_with, message_octets}
use Rattle.vn_packets.specs.Worked.{hex_text, asking_frame, ping_header, short_checksum, echo_checksum, zero_sum, asking_text, ping_text}

pub asking_is : hex_text asking_frame ≡ asking_text
unfolding hex_text asking_frame frame_with number_of
asking_is = refl

pub ping_is : hex_text ping_header ≡ ping_text
unfolding hex_text ping_header datagram_with message_octets plus16 sum_words words_of sum_of
ping_is = refl

pub short_is : hex_text short_checksum ≡ codes "a4a8"
unfolding hex_text short_checksum datagram_with message_octets plus16 sum_words words_of sum_of
short_is = refl

pub echo_is : hex_text echo_checksum ≡ codes "f7ff"
unfolding hex_text echo_checksum message_octets plus16 sum_words words_of sum_of
echo_is = refl

pub zero_is : hex_text zero_sum ≡ codes "13880007000affffd848"
unfolding hex_text zero_sum plus16 sum_words words_of sum_of
zero_is = refl
