pub mod DeskHosts
