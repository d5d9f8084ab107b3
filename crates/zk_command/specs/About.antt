-- What zeekoff says of itself.
use Rattle.std.specs.Prelude.{ℕ, List, ◌++◌, codes}

-- each command, each option and each exit status, with what it means
abbrev pub help_text : List ℕ
help_text =
    codes "zeekoff: Zeek for captures on disk\n" ++
    codes "\n" ++
    codes "  zeekoff list FILE\n" ++
    codes "      say a line for each item of the capture FILE\n" ++
    codes "  zeekoff run [-C] [-b] [--budget N] [--buffer N] -r FILE [SCRIPT..]\n" ++
    codes "      run the default scripts and then each SCRIPT over the capture FILE; what\n" ++
    codes "      they print is said, and their logs are written into this folder\n" ++
    codes "  zeekoff gen START COUNT\n" ++
    codes "      say the packets, bytes and rows of logs of a capture that is made by rule,\n" ++
    codes "      of COUNT conversations (0 to 100000) whose kinds begin with START\n" ++
    codes "  zeekoff --help\n" ++
    codes "      say this text\n" ++
    codes "  zeekoff --version\n" ++
    codes "      say the name and the version\n" ++
    codes "\n" ++
    codes "Options of run, before the first SCRIPT:\n" ++
    codes "  -r FILE     the capture, classic pcap of Ethernet or raw IP\n" ++
    codes "  -C          do not judge checksums, as of packets taken where they were sent\n" ++
    codes "  -b          leave out the default scripts (conn.log, dns.log, http.log)\n" ++
    codes "  --budget N  the units that each handler may use: 1000000, or up to 1000000000\n" ++
    codes "  --buffer N  the bytes that wait behind a hole: 1048576, or up to 67108864\n" ++
    codes "\n" ++
    codes "Exit status:\n" ++
    codes "  0  done                            6  an output could not be written\n" ++
    codes "  1  the words are no command        7  memory ran out\n" ++
    codes "  2  a script is refused             8  a flood of more than 1000000 events\n" ++
    codes "  3  the capture is refused          9  there is no such file\n" ++
    codes "  4  the capture is cut short       10  an argument is no UTF-8 text\n" ++
    codes "  5  an input could not be read\n" ++
    codes "\n" ++
    codes "The guide is docs/GUIDE.md, the manual page man/zeekoff.1.\n"

abbrev pub version_text : List ℕ
version_text = codes "zeekoff 0.1.0\n"
