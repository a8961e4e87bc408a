-- What connections are opened to: a host and a port.
use Rattle.std.specs.Prelude.{Bool, ◌&&◌, bytes_eq, nat_eq, string_bytes}
use Rattle.conn_key.specs.declared.site.Site.{Site}
use Rattle.conn_key.specs.declared.target.Target.{Target}

-- the site that a target is at: its host and port, whatever its path
abbrev pub site_of : Target → Site
site_of target = (string_bytes target.host, target.port)

-- both have the same host and the same port
abbrev pub is_same_site : Site → Site → Bool
is_same_site a b = bytes_eq a.0 b.0 && nat_eq a.1 b.1
