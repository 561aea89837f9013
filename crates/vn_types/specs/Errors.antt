-- Error numbers and their names (FreeBSD errno(2)).
use Rattle.std.specs.Prelude.{ℕ, List, codes}
use Rattle.vn_types.specs.declared.errno.Errno.{Errno}
use Rattle.vn_types.specs.declared.errno.Errno.TheVariants as errno

-- the name of errno(2), as `EPERM`
abbrev pub errno_name : Errno → List ℕ
errno_name errno.Perm = codes "EPERM"
errno_name errno.NoEnt = codes "ENOENT"
errno_name errno.Srch = codes "ESRCH"
errno_name errno.NxIo = codes "ENXIO"
errno_name errno.BadF = codes "EBADF"
errno_name errno.Exist = codes "EEXIST"
errno_name errno.Inval = codes "EINVAL"
errno_name errno.Again = codes "EAGAIN"
errno_name errno.DestAddrReq = codes "EDESTADDRREQ"
errno_name errno.MsgSize = codes "EMSGSIZE"
errno_name errno.AddrInUse = codes "EADDRINUSE"
errno_name errno.AddrNotAvail = codes "EADDRNOTAVAIL"
errno_name errno.NetDown = codes "ENETDOWN"
errno_name errno.NetUnreach = codes "ENETUNREACH"
errno_name errno.NoBufs = codes "ENOBUFS"
errno_name errno.IsConn = codes "EISCONN"
errno_name errno.ConnRefused = codes "ECONNREFUSED"
errno_name errno.HostDown = codes "EHOSTDOWN"
errno_name errno.HostUnreach = codes "EHOSTUNREACH"

-- the number of errno(2), as 1 for `EPERM`
abbrev pub errno_number : Errno → ℕ
errno_number errno.Perm = 1
errno_number errno.NoEnt = 2
errno_number errno.Srch = 3
errno_number errno.NxIo = 6
errno_number errno.BadF = 9
errno_number errno.Exist = 17
errno_number errno.Inval = 22
errno_number errno.Again = 35
errno_number errno.DestAddrReq = 39
errno_number errno.MsgSize = 40
errno_number errno.AddrInUse = 48
errno_number errno.AddrNotAvail = 49
errno_number errno.NetDown = 50
errno_number errno.NetUnreach = 51
errno_number errno.NoBufs = 55
errno_number errno.IsConn = 56
errno_number errno.ConnRefused = 61
errno_number errno.HostDown = 64
errno_number errno.HostUnreach = 65
