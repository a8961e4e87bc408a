mod HostTexts
